-- The first boards are made.
use Rattle.std.proofs.Common.{◌≡◌, map}
use Rattle.lab_snap.specs.Inner.Building.{made_boards, state_in, with_boards}
use Rattle.lab_snap.proofs.loading.boards.add_boards.Given as goal

abbrev pub invariant-loop-board : goal.invariant-loop-board
invariant-loop-board g l = record {
  states : l.states.items ≡ map state_in l.yielded;
  lab : l.lab ≡ with_boards l.fn.lab (made_boards 0 l.yielded);
}
