use Rattle.std.proofs.Common.{◌∙◌, false, sym, ap}
use Rattle.std.specs.Prelude.{is_some}
use Rattle.indexmap.proofs.CallerLemmas.{insert_entry-new}
use Rattle.lab_num.specs.Key.{same_member}
use Rattle.lab_num.proofs.ListLemmas.{none_is}
use Rattle.lab_snap.proofs.DelayLemmas.{added_one, member_twice}
use Rattle.lab_snap.proofs.valid.hubs.add_members.Goals as goal

pub returns-then-is_some-clause-twice : goal.returns-then-is_some-clause-twice
returns-then-is_some-clause-twice c = λ yes distinct.
    member_twice c.loop-member.delays.entries c.args.delays.now.entries c.args.hub.now.delay
    c.items-members.result.now c.loop-member.member-index _ c.loop-member-test.true c.loop-member.invariant.entries
    (ap is_some (sym c.in_ok-insert.ensures.old) ∙ sym c.is_some.ensures ∙ c.if-is_some.true)
    (rw (← c.items-members.ensures) at distinct)

pub loop-member-preserved : goal.loop-member-preserved
loop-member-preserved c =
    let absent = sym c.in_ok-insert.ensures.old
    ∙ none_is c.in_ok-insert.field-0 (sym c.is_some.ensures ∙ c.if-is_some.false) in
    record {
      entries =
          c.in_ok-insert.ensures.entries
          ∙ insert_entry-new same_member c.loop-member.delays _ c.args.hub.now.delay absent
          ∙ added_one c.loop-member.delays.entries c.args.delays.now.entries c.args.hub.now.delay
          c.items-members.result.now c.loop-member.member-index _ c.loop-member-test.true
          c.loop-member.invariant.entries;
      distinct = λ before. c.in_ok-insert.ensures.unique;
    }
