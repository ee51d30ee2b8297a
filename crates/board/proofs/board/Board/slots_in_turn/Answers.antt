use Rattle.std.proofs.Common.{◌∙◌, ap, sym, arith}
use Rattle.board.proofs.NumberLemmas.{plan-stretch}
use Rattle.board.proofs.StretchLemmas.{after_none, after_next}
use Rattle.board.specs.Inner.Seat.{features_of}
use Rattle.board.specs.View.{State}
use Rattle.board.proofs.board.Board.slots_in_turn.Goals as goal

pub slot_in_turn-requires : goal.slot_in_turn-requires
slot_in_turn-requires g c =
    let kept = ap {A = State} (λ s. s.view.space.plan) c.loop-i.invariant.run ∙ plan-stretch _ _ _ _ in
    record { features = c.requires.features ∙ ap features_of (sym kept) }

pub loop-i-init : goal.loop-i-init
loop-i-init g c = record { run = after_none _ _ _ }

pub returns-then-all_asleep-clause-run : goal.returns-then-all_asleep-clause-run
returns-then-all_asleep-clause-run g c =
    after_next _ _ _ _ _ c.loop-i.invariant.run c.in-Ok.ensures.ok (omega (arith, c.requires.most, c.loop-i-test.true))

pub loop-i-preserved : goal.loop-i-preserved
loop-i-preserved g c = record {
  run =
      after_next _ _ _ _ _ c.loop-i.invariant.run c.in-Ok.ensures.ok
      (omega (arith, c.requires.most, c.loop-i-test.true));
}
