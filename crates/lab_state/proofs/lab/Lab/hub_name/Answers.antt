-- No two hubs have one name, and no board has the name of a hub.
use Rattle.std.proofs.lemmas.Simd.{map-map}
use Rattle.lab_state.specs.Board.{Board}
use Rattle.lab_state.specs.Hub.{Hub}
use Rattle.lab_state.proofs.ListLemmas.{named_at, no_board}
use Rattle.lab_state.proofs.SoundLemmas.{unspent}
use Rattle.lab_state.proofs.lab.Lab.hub_name.Goals as goal

pub returns-clause-found : goal.returns-clause-found
returns-clause-found g c =
    let sound = unspent c.self.invariant c.self.view_is c.requires.unspent in
    rw (← c.self.view_is)
    (named_at (λ (hub : Hub). hub.name) c.self.inside.hubs c.args.n c.name.result.now
    sound.shape.names.hubs_differ c.name.ensures)

pub returns-clause-no_board : goal.returns-clause-no_board
returns-clause-no_board g c =
    let sound = unspent c.self.invariant c.self.view_is c.requires.unspent in
    rw (← c.self.view_is)
    (no_board (λ (board : Board). board.name) c.self.inside.boards.items (λ (hub : Hub). hub.name) c.self.inside.hubs
    c.args.n c.name.result.now (rw map-map at sound.shape.names) c.name.ensures)
