use Rattle.std.proofs.Common.{◌≡◌, map, ◌++◌, take, drop}
use Rattle.board.specs.New.{reset_core}
use Rattle.board.proofs.harts.reset_all.Given as goal

abbrev pub invariant-loop-hart : goal.invariant-loop-hart
invariant-loop-hart l =
    l.harts ≡ map reset_core (take l.hart-index l.initial.harts) ++ drop l.hart-index l.initial.harts
