-- The hubs have the members in their order.
use Rattle.std.proofs.Common.{◌≡◌, ◌∙◌, ap, ℕ, List, length, Result, Ok, Err, OnOk, arith}
use Rattle.std.specs.Prelude.{OnErr}
use Rattle.lab_num.specs.declared.key.Member.{Member}
use Rattle.uart_hub.specs.Hub as uart_hub
use Rattle.std.proofs.lemmas.Result.{on_ok_weaker}
use Rattle.lab_num.specs.Change.{change_at}
use Rattle.lab_num.proofs.ListLemmas.{length-change}
use Rattle.lab_state.specs.One.{with_member}
use Rattle.lab_state.specs.Inner.Hubs.{hubs_of}
use Rattle.lab_state.proofs.HubLemmas.{parts, hubs-connected}
use Rattle.lab_state.proofs.hub_list.HubList.connect.Goals as goal

-- as many hubs as before
as_many :
    (old new : List uart_hub.Hub) (n : ℕ) (m : Member) {E : Type 0} (r : Result (Unit {0}) E) →
    OnOk r (new ≡ change_at old n (uart_hub.with_member m)) → OnErr r (new ≡ old) → length new ≡ length old
as_many old new n m (Ok x) made kept = ap length made ∙ length-change (uart_hub.with_member m) old n
as_many old new n m (Err e) made kept = ap length kept

pub invariant_of-self : goal.invariant_of-self
invariant_of-self c =
    let are = c.self.invariant.0 in
    let long = as_many _ _ c.args.n c.args.member c.connect.result c.connect.ensures.ok c.connect.ensures.err in (
      parts _ _ (omega (arith, long, are.names_long, are.parts_long)),
      omega (arith, long, c.self.invariant.1),
    )

pub returns-clause-ok : goal.returns-clause-ok
returns-clause-ok c =
    let are = c.self.invariant.0 in
    on_ok_weaker c.connect.result
    (λ made. ap (hubs_of c.self.inside.names.entries) made
    ∙ hubs-connected c.self.inside.names.entries c.self.inside.hubs c.args.n c.args.member
    ∙ ap (λ hubs. change_at hubs c.args.n (with_member c.args.member)) c.self.view_is)
    c.connect.ensures.ok
