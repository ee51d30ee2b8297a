-- No two boards have one name.
use Rattle.std.proofs.Common.{◌∙◌, sym, ap, ◌<◌, length, Some, arith}
use Rattle.std.proofs.lemmas.Option.{slice_get_read}
use Rattle.std.proofs.lemmas.Simd.{map-map}
use Rattle.std.specs.Option.{option_map}
use Rattle.lab_state.specs.Board.{Board}
use Rattle.lab_state.specs.Hub.{Hub}
use Rattle.lab_state.proofs.ListLemmas.{named_at, no_hub}
use Rattle.lab_state.proofs.SoundLemmas.{unspent}
use Rattle.lab_state.proofs.lab.Lab.board_name.Goals as goal

pub returns-clause-found : goal.returns-clause-found
returns-clause-found g c =
    let boards = c.self.inside.boards.items in
    let sound = unspent c.self.invariant c.self.view_is c.requires.unspent in
    let below : c.args.b.0 < length c.self.inside.boards.items =
    omega (arith, ap (λ s. length s.lab.boards) c.self.view_is, c.requires.exists) in
    let at = slice_get_read boards _ c.args.b.0 c.index.result.now (λ i. length boards) below c.index.ensures in
    rw (← c.self.view_is)
    (named_at (λ (board : Board). board.name) boards c.args.b.0 c.name.result.now
    (rw map-map at sound.shape.names).boards_differ
    (ap Some c.name.ensures ∙ ap (option_map (λ (board : Board). board.name)) (sym at)))

pub returns-clause-no_hub : goal.returns-clause-no_hub
returns-clause-no_hub g c =
    let boards = c.self.inside.boards.items in
    let sound = unspent c.self.invariant c.self.view_is c.requires.unspent in
    let below : c.args.b.0 < length c.self.inside.boards.items =
    omega (arith, ap (λ s. length s.lab.boards) c.self.view_is, c.requires.exists) in
    let at = slice_get_read boards _ c.args.b.0 c.index.result.now (λ i. length boards) below c.index.ensures in
    rw (← c.self.view_is)
    (no_hub (λ (board : Board). board.name) boards (λ (hub : Hub). hub.name) c.self.inside.hubs c.args.b.0
    c.name.result.now (rw map-map at sound.shape.names)
    (ap Some c.name.ensures ∙ ap (option_map (λ (board : Board). board.name)) (sym at)))
