-- The devices so far, but the one that sent it, were handed the payload.
use Rattle.std.proofs.Common.{◌≡◌, take, fold}
use Rattle.lab_num.specs.Route.{others}
use Rattle.lab_state.specs.Boundary.{Handed, to_member}
use Rattle.lab_state.proofs.boundary.hand_over.Given as goal

abbrev pub invariant-loop-member : goal.invariant-loop-member
invariant-loop-member g l =
    ◌≡◌ {A = Handed} (record { boards = l.boards; notes = l.notes.items })
    (fold (to_member l.at.0 l.payload) (record { boards = l.fn.boards; notes = l.fn.notes.items })
    (others (take l.member-index l.members) l.from))
