-- One slot of a board.
use Rattle.std.specs.Prelude.{ℕ, ◌+◌, ◌==◌, false, if◌then◌else◌, length, slice_set}
use Rattle.std.specs.Option.{option_map_or}
use Rattle.rv_hart.specs.declared.csr.Lines.{Lines}
use Rattle.rv_hart.specs.Core.{Core, ticked}
use Rattle.rv_hart.specs.Trap.{chosen, interrupt, is_ready}
use Rattle.rv_exec.specs.Effect.{core_after, bus_after}
use Rattle.rv_atomic.specs.AtomicEffect.{SharedEffect}
use Rattle.board_space.specs.Lines.{sampled, lines_of}
use Rattle.board.specs.Fetch.{effect_on}
use Rattle.board.specs.HartBus.{HartBus, answer, loaded, stored}
use Rattle.board.specs.View.{View, State}
use Rattle.board.specs.HartView.{HartView, SlotState, hart_view, slot_state, still, bus_of}

-- ---- of the processor that takes it

-- a slot that leaves the processor like this, but for its cycle, which is counted
abbrev pub cycle : HartView → Core → SlotState
cycle v core = still (record v { core = ticked core })

-- an effect is carried out
abbrev pub carried_out : ℕ → HartBus → SharedEffect → SlotState
carried_out hart w shared =
    slot_state hart (core_after answer w shared.effect) shared.watch (bus_after loaded stored w shared.effect)

-- one instruction, or its exception entry
abbrev pub instruction : HartView → ℕ → Lines → SlotState
instruction v t lines = carried_out v.hart (bus_of v t) (effect_on v (bus_of v t) lines)

-- a slot of a processor that does not wait: the entry of the interrupt that is taken now, or with none an instruction
unfoldable pub awake : HartView → ℕ → Lines → SlotState
awake v t lines =
    option_map_or (λ n. cycle v (interrupt v.core n)) (chosen v.core lines.mip) (instruction v t lines)

-- a processor that waits no more
abbrev pub woken : HartView → HartView
woken v = record v { core = record v.core { waiting = false } }

-- a slot of a processor that waits: it is woken where an interrupt is pending and enabled, and else its cycle passes
abbrev pub asleep : HartView → ℕ → Lines → SlotState
asleep v t lines =
    if is_ready v.core lines.mip then awake (woken v) t lines else cycle v v.core

-- the interrupt controller has sampled its sources
abbrev pub sampling : HartView → HartView
sampling v = record v { space = sampled v.space }

-- The steps of a slot at a microsecond, in their order:
-- 1. a halted processor's slot changes nothing;
-- 2. the interrupt controller samples its sources;
-- 3. the lines of the processor are read;
-- 4. a processor that waits goes on waiting, or waits no more;
-- 5. an interrupt is entered,
-- 6. or else one instruction is done.
abbrev pub running : HartView → ℕ → Lines → SlotState
running v t lines = if v.core.waiting then asleep v t lines else awake v t lines

unfoldable pub hart_slot : HartView → ℕ → SlotState
hart_slot v t =
    if v.core.halted then still v else running (sampling v) t (lines_of (sampled v.space) v.hart t)

-- ---- of the board

-- the number after a processor's, or 0 after the last
abbrev pub number_after : ℕ → ℕ → ℕ
number_after harts hart = if hart + 1 == harts then 0 else hart + 1

-- a board whose processor `next` has done this in its slot: the next slot is another's
abbrev pub in_turn : View → SlotState → State
in_turn v run = record {
  view = record {
    numbers = run.view.numbers;
    cores = slice_set v.cores v.next run.view.core;
    next = number_after (length v.cores) v.next;
    watch = run.view.watch;
    space = run.view.space;
  };
  posts = run.posts;
  entries = run.entries;
}

-- the processors take the slots of a board in turn
unfoldable pub slot : View → ℕ → State
slot v t = in_turn v (hart_slot (hart_view v v.next) t)
