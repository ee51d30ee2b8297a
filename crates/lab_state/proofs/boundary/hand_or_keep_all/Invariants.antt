-- The posts so far were handed over or kept.
use Rattle.std.proofs.Common.{◌≡◌, ◌++◌, fold, take}
use Rattle.lab_state.specs.Boundary.{Handed, to_route}
use Rattle.lab_state.specs.Hub.{members_of}
use Rattle.lab_state.proofs.BoundaryLemmas.{now_of, later_of}
use Rattle.lab_state.proofs.boundary.hand_or_keep_all.Given as goal

abbrev pub invariant-loop-post : goal.invariant-loop-post
invariant-loop-post g l = record {
  handed :
      ◌≡◌ {A = Handed} (record { boards = l.boards; notes = l.notes.items })
      (fold (to_route l.at.0 (members_of l.hubs)) (record { boards = l.fn.boards; notes = l.fn.notes.items })
      (now_of l.at.0 l.hubs (take l.post-index l.posts)));
  kept : l.kept.items ≡ l.fn.kept.items ++ later_of l.at.0 l.hubs (take l.post-index l.posts);
}
