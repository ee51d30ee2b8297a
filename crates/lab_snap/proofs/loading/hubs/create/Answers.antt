-- One member more is connected.
use Rattle.std.proofs.Common.{◌<◌, ◌∙◌, ap, get_or, length, sym, take}
use Rattle.std.proofs.lemmas.List.{get_or_default, take_more}
use Rattle.lab_num.specs.declared.key.Member.{Member}
use Rattle.lab_snap.proofs.HubLemmas.{last_kind, next_free, one_more_member, with_half}
use Rattle.lab_snap.proofs.loading.hubs.create.Goals as goal

-- the item that is read past the end
abbrev none : Member
none = record { board = record { 0 = 0 }; dev = 0 }

pub connect-requires-clause-kind : goal.connect-requires-clause-kind
connect-requires-clause-kind g c =
    let hub = c.args.hub.now in
    let i = c.loop-member.member-index in
    let below : i < length hub.members = rw c.items-member-items.ensures at c.loop-member-test.true in
    rw (c.as_str-in-loop-member.ensures, c.items-member-items.ensures)
    (last_kind c.args.lab.now hub c.requires.free (take i hub.members) c.loop-member.invariant
    (get_or hub.members i none) (c.requires.members i none below))

pub connect-requires-clause-free : goal.connect-requires-clause-free
connect-requires-clause-free g c =
    let hub = c.args.hub.now in
    let i = c.loop-member.member-index in
    let below : i < length hub.members = rw c.items-member-items.ensures at c.loop-member-test.true in
    let m : Member = get_or hub.members i none in
    rw c.items-member-items.ensures
    (next_free c.args.lab.now hub i m c.loop-member.invariant c.requires.once below
    (get_or_default hub.members i none m below))

pub loop-member-preserved : goal.loop-member-preserved
loop-member-preserved g c =
    let hub = c.args.hub.now in
    let i = c.loop-member.member-index in
    let below : i < length hub.members = rw c.items-member-items.ensures at c.loop-member-test.true in
    one_more_member c.args.lab.now hub c.requires.free (take i hub.members) (get_or hub.members i none)
    c.loop-member.invariant
    (rw (c.as_str-in-loop-member.ensures, c.items-member-items.ensures) at c.in_ok-connect.ensures.ok)
    ∙ ap (with_half c.args.lab.now hub) (sym (take_more hub.members i none below))
