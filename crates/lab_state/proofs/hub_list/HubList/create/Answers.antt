-- A hub more has a name and a list of members more.
use Rattle.std.proofs.Common.{◌∙◌, sym, ap, [], length, arith}
use Rattle.std.proofs.lemmas.List.{length_push}
use Rattle.lab_state.proofs.HubLemmas.{named-at, none-named, parts, hubs-push}
use Rattle.lab_state.proofs.hub_list.HubList.create.Goals as goal

pub invariant_of-self-2 : goal.invariant_of-self-2
invariant_of-self-2 c =
    let are = c.self.invariant.0 in
    let more = length_push c.self.inside.hubs (record { delay = c.args.delay; members = [] }) in
    let few = ap length c.self.view_is in
    rw (c.in_ok-create_both.ensures.name, c.in_ok-create_both.ensures.hub) (
      parts _ _ (omega (arith, length_push c.self.inside.names.entries, more, are.names_long, are.parts_long)),
      omega (arith, more, few, are.parts_long),
    )

pub returns-clause-ok : goal.returns-clause-ok
returns-clause-ok c =
    let are = c.self.invariant.0 in
    rw (c.in_ok-create_both.ensures.name, c.in_ok-create_both.ensures.hub, ← c.self.view_is)
    (hubs-push c.self.inside.names.entries c.self.inside.hubs _ _ (sym are.names_long ∙ are.parts_long))

pub create_both-requires-clause-new : goal.create_both-requires-clause-new
create_both-requires-clause-new c =
    let are = rw c.self.view_is at c.self.invariant.0 in
    none-named c.self.inside.names c.args.name
    (named-at c.args.name c.self.inside.names.entries c.args.self.now are.names_are ∙ c.requires.new)
