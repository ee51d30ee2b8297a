use Rattle.std.proofs.Common.{arith, refl, subst, below_more}
use Rattle.std.specs.Prelude.{slice_index_or}
use Rattle.std.proofs.lemmas.List.{get_or_default}
use Rattle.rv_hart.specs.Core.{initial}
use Rattle.rv_hart.specs.HartState.{state_of}
use Rattle.board_space.specs.Parts.{IsStateOfHart}
use Rattle.board_space.proofs.PartLemmas.{hart_at, harts_are, harts_count}
use Rattle.board_space.proofs.state.are_harts.Goals as goal

pub returns-then-harts-count : goal.returns-then-harts-count
returns-then-harts-count c = (
  λ never. absurd (cc),
  λ are. absurd (c.if-harts-count.true (harts_count _ _ _ are)),
)

pub returns-then-not-is_state_of_hart : goal.returns-then-not-is_state_of_hart
returns-then-not-is_state_of_hart c = (
  λ never. absurd (cc),
  λ are.
      let fits = c.is_state_of_hart.ensures.1 (hart_at _ _ _ _ _ are (omega arith)) in
      absurd (cc),
)

pub loop-number-preserved : goal.loop-number-preserved
loop-number-preserved c =
    below_more (λ k. IsStateOfHart c.args.letters k (slice_index_or c.args.harts.now k (state_of initial)))
    c.loop-number.number c.loop-number.invariant
    (subst (IsStateOfHart c.args.letters c.loop-number.number)
    (get_or_default c.args.harts.now c.loop-number.number _ (state_of initial) c.loop-number-test.true)
    ((c.if-not-is_state_of_hart.ensures {u = tt}).0 refl))

pub returns : goal.returns
returns c = (
  λ yes. harts_are _ _ _ (state_of initial) (omega (arith, c.if-harts-count.false))
      (λ k there. c.loop-number.invariant k (omega (arith, there, c.loop-number-test.false))),
  λ are. refl,
)
