use Rattle.std.proofs.Common.{◌≡◌, ◌++◌, map, take}
use Rattle.lab_snap.proofs.valid.names.all_names.Given as goal

abbrev pub invariant-loop-hub : goal.invariant-loop-hub
invariant-loop-hub l =
    map (λ name. name.now) l.names.items
    ≡ map (λ board. board.name) l.lab.boards ++ map (λ hub. hub.name) (take l.hub-index l.hubs)
