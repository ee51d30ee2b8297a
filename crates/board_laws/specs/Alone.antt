-- One slot of a board of one processor without atomic instructions: nothing is asked of turns and reservations.
use Rattle.std.specs.Prelude.{ℕ, false, if◌then◌else◌, [], ◌∷◌}
use Rattle.std.specs.Option.{option_map_or}
use Rattle.rv_hart.specs.declared.csr.Lines.{Lines}
use Rattle.rv_hart.specs.Core.{Core, ticked}
use Rattle.rv_hart.specs.Trap.{chosen, interrupt, is_ready}
use Rattle.rv_exec.specs.Effect.{Effect, effect, core_after, bus_after}
use Rattle.board.specs.Fetch.{fetched_by}
use Rattle.board.specs.Lines.{sampled, lines_of}
use Rattle.board.specs.View.{View, State, quiet}
use Rattle.board.specs.HartBus.{HartBus, answer, loaded, stored}

-- the bus of the processor in a slot at this microsecond, in which nothing was made yet
abbrev pub bus_of : View → ℕ → HartBus
bus_of v t = record { numbers = v.numbers; space = v.space; at = t; posts = []; entries = [] }

-- a board of this processor and this bus: whose turn is next and what is reserved stay
abbrev pub state_of : View → Core → HartBus → State
state_of v core w = record {
  view = record v { numbers = w.numbers; cores = core ∷ []; space = w.space };
  posts = w.posts;
  entries = w.entries;
}

-- a slot that leaves the processor like this, but for its cycle, which is counted
abbrev pub cycle : View → Core → State
cycle v core = quiet (record v { cores = ticked core ∷ [] })

-- an effect is carried out
abbrev pub carried_out : View → HartBus → Effect → State
carried_out v w does = state_of v (core_after answer w does) (bus_after loaded stored w does)

-- one instruction, or its exception entry, as on a hart alone
abbrev pub instruction : View → Core → ℕ → Lines → State
instruction v core t lines = carried_out v (bus_of v t) (effect core (fetched_by core (bus_of v t)) lines)

-- a slot of a processor that does not wait: the entry of the interrupt that is taken now, or with none an instruction
unfoldable pub awake : View → Core → ℕ → Lines → State
awake v core t lines =
    option_map_or (λ n. cycle v (interrupt core n)) (chosen core lines.mip) (instruction v core t lines)

-- a slot of a processor that waits: it is woken where an interrupt is pending and enabled, and else its cycle passes
abbrev pub asleep : View → Core → ℕ → Lines → State
asleep v core t lines =
    if is_ready core lines.mip then awake v (record core { waiting = false }) t lines else cycle v core

-- a board whose interrupt controller has sampled its sources
abbrev pub sampling : View → View
sampling v = record v { space = sampled v.space }

-- The six steps of `Slot.antt`, in their order: a halted processor's slot changes nothing; the interrupt controller
-- samples; the lines are read; a wait goes on or ends; an interrupt is entered, or else one instruction is done.
abbrev pub running : View → Core → ℕ → Lines → State
running v core t lines = if core.waiting then asleep v core t lines else awake v core t lines

-- a slot of a board whose processor is this one
unfoldable pub alone_slot : View → Core → ℕ → State
alone_slot v core t =
    if core.halted then quiet v else running (sampling v) core t (lines_of (sampled v.space) 0 t)
