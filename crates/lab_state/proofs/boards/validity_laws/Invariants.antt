-- The boards so far are boards that there can be.
use Rattle.std.proofs.Common.{take}
use Rattle.std.specs.List.{All}
use Rattle.std.specs.Option.{ForSome}
use Rattle.board.specs.Valid.{IsBoard}
use Rattle.lab_state.proofs.boards.validity_laws.Given as goal

abbrev pub invariant-loop-board : goal.invariant-loop-board
invariant-loop-board g l = All (λ board. ForSome board.view IsBoard) (take l.board-index l.boards)
