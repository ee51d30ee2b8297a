-- One post more was handed over or kept.
use Rattle.std.proofs.Common.{ap, take}
use Rattle.lab_state.specs.Boundary.{Handed}
use Rattle.lab_state.specs.Inner.Standing.{outlines}
use Rattle.lab_state.proofs.BoundaryLemmas.{now_of, handed-more, kept-more}
use Rattle.lab_state.proofs.RoundLemmas.{outlines-handed}
use Rattle.lab_state.proofs.boundary.hand_or_keep_all.Goals as goal

pub hand_or_keep-requires : goal.hand_or_keep-requires
hand_or_keep-requires g c =
    let at = c.args.at.0 in
    let hubs = c.args.hubs.now in
    let start : Handed = record { boards = c.args.boards.now; notes = c.args.notes.now.items } in
    rw (
      ap (λ (h : Handed). outlines h.boards) c.loop-post.invariant.handed,
      outlines-handed at hubs start (now_of at hubs (take c.loop-post.post-index c.args.posts.now)),
    )
    c.requires

pub loop-post-preserved : goal.loop-post-preserved
loop-post-preserved g c =
    let at = c.args.at.0 in
    let hubs = c.args.hubs.now in
    let posts = c.args.posts.now in
    let i = c.loop-post.post-index in
    let start : Handed = record { boards = c.args.boards.now; notes = c.args.notes.now.items } in
    record {
      handed =
          handed-more at hubs start posts i c.post-item.result c.loop-post-test.true c.post-item.is
          c.loop-post.invariant.handed c.in_ok-hand_or_keep.ensures.handed;
      kept =
          kept-more at hubs c.args.kept.now.items posts i c.post-item.result c.loop-post-test.true c.post-item.is
          c.loop-post.invariant.kept c.in_ok-hand_or_keep.ensures.kept;
    }
