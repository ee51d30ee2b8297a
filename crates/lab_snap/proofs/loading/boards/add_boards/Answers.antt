-- One board more is made.
use Rattle.std.proofs.Common.{◌∙◌, ◌++◌, ◌∷◌, [], ap, arith, length, refl, rules, sym}
use Rattle.std.proofs.lemmas.Iterator.Adapters.{YieldsList-from_vec}
use Rattle.std.proofs.lemmas.Iterator.Consumers.{YieldsList-so_far, YieldsList-turn}
use Rattle.std.proofs.lemmas.List.{map-id, map_push}
use Rattle.lab_state.specs.Lab.{Seen}
use Rattle.lab_snap.specs.Inner.Building.{made_board, state_in, with_boards}
use Rattle.lab_snap.proofs.BoardLemmas.{is_free, length_made, made_more, none_made_yet}
use Rattle.lab_snap.proofs.loading.boards.add_boards.Goals as goal

pub loop-board-init : goal.loop-board-init
loop-board-init g c = record {
  states = c.new-states.ensures.items;
  lab = none_made_yet c.args.lab.now c.requires.no_board;
}

pub add_board-requires-clause-few : goal.add_board-requires-clause-few
add_board-requires-clause-few g c =
    let turn = YieldsList-turn
    (YieldsList-from_vec {s = c.into_iter-board-iterator.result} c.args.boards (search rules) (search rules))
    c.loop-board.yielded c.loop-board.board-iterator c.loop-board.yielded_by c.next.result c.next.new.self
    c.in-Some.board c.in-Some.is c.next.ensures.steps in
    omega (
      arith,
      turn.0,
      c.requires.can.few,
      ap (λ (s : Seen). length s.lab.boards) c.loop-board.invariant.lab,
      length_made 0 c.loop-board.yielded,
    )

pub add_board-requires-clause-free : goal.add_board-requires-clause-free
add_board-requires-clause-free g c =
    let road =
    YieldsList-from_vec {s = c.into_iter-board-iterator.result} c.args.boards (search rules) (search rules) in
    let turn = YieldsList-turn road c.loop-board.yielded c.loop-board.board-iterator c.loop-board.yielded_by
    c.next.result c.next.new.self c.in-Some.board c.in-Some.is c.next.ensures.steps in
    let front = YieldsList-so_far road c.loop-board.yielded c.loop-board.board-iterator c.loop-board.yielded_by in
    is_free c.loop-board.lab.lab c.args.boards c.loop-board.yielded c.in-Some.board
    (ap (λ (s : Seen). s.lab.hubs) c.loop-board.invariant.lab ∙ c.requires.no_hub)
    (ap (λ (s : Seen). s.lab.boards) c.loop-board.invariant.lab) c.requires.can.differ
    (sym (map-id c.loop-board.yielded) ∙ front) turn.0 turn.1

pub loop-board-preserved : goal.loop-board-preserved
loop-board-preserved g c = record {
  states =
      rw (
        c.in_ok-push.ensures.items,
        c.loop-board.invariant.states,
        c.in_ok-add_board.ensures.state,
        map_push state_in c.loop-board.yielded c.in-Some.board,
      ) refl;
  lab =
      c.in_ok-add_board.ensures.ok
      ∙ ap (λ (s : Seen). with_boards s (s.lab.boards ++ made_board (length s.lab.boards) c.in-Some.board ∷ []))
      c.loop-board.invariant.lab
      ∙ ap (with_boards c.args.lab.now) (made_more c.loop-board.yielded c.in-Some.board);
}
