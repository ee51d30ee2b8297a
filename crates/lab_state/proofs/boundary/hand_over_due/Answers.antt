-- What waits comes first, and then the posts of the round.
use Rattle.std.proofs.Common.{◌≡◌, ◌∙◌, ap, []}
use Rattle.lab_state.specs.Boundary.{Handed}
use Rattle.lab_state.specs.Inner.Standing.{outlines}
use Rattle.lab_state.proofs.BoundaryLemmas.{now_of, handed-joined, kept-joined}
use Rattle.lab_state.proofs.RoundLemmas.{outlines-handed}
use Rattle.lab_state.proofs.boundary.hand_over_due.Goals as goal

pub hand_or_keep_all-requires-2 : goal.hand_or_keep_all-requires-2
hand_or_keep_all-requires-2 g c =
    let at = c.args.at.0 in
    let hubs = c.args.hubs.now in
    let start : Handed = record { boards = c.args.boards.now; notes = c.new-notes.result.items } in
    rw (
      ap (λ (h : Handed). outlines h.boards) c.in_ok-hand_or_keep_all.ensures.handed,
      outlines-handed at hubs start (now_of at hubs c.deref.result.now),
    )
    c.requires.devices

pub returns-clause-handed : goal.returns-clause-handed
returns-clause-handed g c =
    let waited : c.deref.result.now ≡ c.args.pending.now.items =
    c.deref.ensures.value ∙ ap (λ list. list.items) c.replace-waited.ensures.value in
    let start : Handed = record { boards = c.args.boards.now; notes = [] } in
    handed-joined c.args.at.0 c.args.hubs.now c.args.pending.now.items c.args.posts.now c.requires.of_hubs start
    (rw (c.new-notes.ensures.items, waited) at c.in_ok-hand_or_keep_all.ensures.handed)
    c.in_ok-hand_or_keep_all-2.ensures.handed

pub returns-clause-waiting : goal.returns-clause-waiting
returns-clause-waiting g c =
    let waited : c.deref.result.now ≡ c.args.pending.now.items =
    c.deref.ensures.value ∙ ap (λ list. list.items) c.replace-waited.ensures.value in
    let none : c.replace-waited.new.dest.items ≡ [] =
    ap (λ list. list.items) c.replace-waited.ensures.after ∙ c.new.ensures.items in
    kept-joined c.args.at.0 c.args.hubs.now c.args.pending.now.items c.args.posts.now c.requires.of_hubs
    (rw (none, waited) at c.in_ok-hand_or_keep_all.ensures.kept)
    c.in_ok-hand_or_keep_all-2.ensures.kept
