use Rattle.std.proofs.Common.{◌≡◌, map, take}
use Rattle.lab_snap.proofs.valid.names.board_names.Given as goal

abbrev pub invariant-loop-board : goal.invariant-loop-board
invariant-loop-board l =
    map (λ name. name.now) l.names.items ≡ map (λ board. board.name) (take l.board-index l.boards)
