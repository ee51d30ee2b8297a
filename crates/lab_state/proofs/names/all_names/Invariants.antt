-- The names of the boards so far.
use Rattle.std.proofs.Common.{◌≡◌, map, take}
use Rattle.lab_state.specs.Names.{board_names}
use Rattle.lab_state.proofs.names.all_names.Given as goal

abbrev pub invariant-loop-board : goal.invariant-loop-board
invariant-loop-board g l = l.names.items ≡ map board_names (take l.board-index l.boards)
