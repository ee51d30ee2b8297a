use Rattle.std.proofs.Common.{◌≡◌, ◌∙◌, ℕ, All, List, ap, sym, subst, refl, arith, length}
use Rattle.std.specs.Prelude.{Option}
use Rattle.rv_hart.specs.Core.{Core}
use Rattle.sys_bus.specs.declared.plan.BoardPlan.{BoardPlan}
use Rattle.board.proofs.NumberLemmas.{plan-stretch}
use Rattle.board.proofs.StretchLemmas.{after_none, after_next}
use Rattle.board.proofs.TurnLemmas.{taken_alone}
use Rattle.board.proofs.WatchLemmas.{reserved_after}
use Rattle.board.specs.HartView.{slot_state}
use Rattle.board.specs.Inner.Seat.{behind, features_of}
use Rattle.board.specs.Slot.{hart_slot}
use Rattle.board_space.specs.Valid.{IsReservation}
use Rattle.board.specs.View.{State}
use Rattle.board.specs.HartBus.{HartBus}
use Rattle.board.proofs.board.slots.slots_alone.Goals as goal

pub loop-i-init : goal.loop-i-init
loop-i-init g c = record {
  run = after_none _ _ _;
  same = record { letters = refl; number = refl };
  watch = refl;
  reserved = λ all. all;
}

pub slot-requires : goal.slot-requires
slot-requires g c =
    let plan = sym (ap {A = State} (λ s. s.view.space.plan) c.loop-i.invariant.run ∙ plan-stretch _ _ _ _) in
    let seat = c.requires.seat in
    record {
      seat =
          record {
            features = seat.features ∙ ap features_of plan;
            letters =
                c.loop-i.invariant.same.letters ∙ seat.letters ∙ ap {A = BoardPlan} (λ plan. plan.letters) plan;
            number = rw c.loop-i.invariant.watch seat.number;
            harts = c.loop-i.invariant.watch ∙ seat.harts ∙ ap {A = BoardPlan} (λ plan. length plan.cpus) plan;
          };
    }

-- the reservations after one slot more
one_more :
    (core core' : Core) (watch watch' : List (Option ℕ)) (w w' : HartBus) (plan : BoardPlan) (t : ℕ) →
    w.space.plan ≡ plan → core.letters ≡ plan.letters →
    slot_state 0 core' watch' w'
    ≡ behind (slot_state 0 core watch w) (hart_slot (slot_state 0 core watch w).view t) →
    All (IsReservation plan) watch → All (IsReservation plan) watch'
one_more core core' watch watch' w w' plan t same own done =
    subst
    (λ (p : BoardPlan). core.letters ≡ p.letters → All (IsReservation p) watch → All (IsReservation p) watch') same
    (reserved_after 0 core core' watch watch' w w' t done) own

pub returns-then-idle-clause-reserved : goal.returns-then-idle-clause-reserved
returns-then-idle-clause-reserved g c = λ all.
    let kept = ap {A = State} (λ s. s.view.space.plan) c.loop-i.invariant.run ∙ plan-stretch _ _ _ _ in
    one_more c.loop-i.hart c.slot.new.hart c.loop-i.watch c.slot.new.watch c.loop-i.bus c.slot.new.bus
    c.args.bus.now.space.plan c.args.now.0 kept (c.loop-i.invariant.same.letters ∙ c.requires.seat.letters)
    c.in-Ok.ensures.ok (c.loop-i.invariant.reserved all)

pub returns-then-idle-clause-run : goal.returns-then-idle-clause-run
returns-then-idle-clause-run g c =
    after_next _ _ _ _ _ c.loop-i.invariant.run
    (taken_alone c.loop-i.hart c.slot.new.hart c.loop-i.watch c.slot.new.watch c.loop-i.bus c.slot.new.bus
    c.args.now.0 c.in-Ok.ensures.ok) (omega (arith, c.requires.most, c.loop-i-test.true))

pub loop-i-preserved : goal.loop-i-preserved
loop-i-preserved g c = record {
  run =
      after_next _ _ _ _ _ c.loop-i.invariant.run
      (taken_alone c.loop-i.hart c.slot.new.hart c.loop-i.watch c.slot.new.watch c.loop-i.bus c.slot.new.bus
      c.args.now.0 c.in-Ok.ensures.ok) (omega (arith, c.requires.most, c.loop-i-test.true));
  same =
      record {
        letters = c.in-Ok.ensures.same.letters ∙ c.loop-i.invariant.same.letters;
        number = c.in-Ok.ensures.same.number ∙ c.loop-i.invariant.same.number;
      };
  watch = c.in-Ok.ensures.watch ∙ c.loop-i.invariant.watch;
  reserved = λ all.
      let kept = ap {A = State} (λ s. s.view.space.plan) c.loop-i.invariant.run ∙ plan-stretch _ _ _ _ in
      one_more c.loop-i.hart c.slot.new.hart c.loop-i.watch c.slot.new.watch c.loop-i.bus c.slot.new.bus
      c.args.bus.now.space.plan c.args.now.0 kept (c.loop-i.invariant.same.letters ∙ c.requires.seat.letters)
      c.in-Ok.ensures.ok (c.loop-i.invariant.reserved all);
}
