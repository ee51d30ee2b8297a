-- What may be changed of a board from outside.
use Rattle.std.specs.Prelude.{◌≡◌, ℕ, ◌%◌, ◌≤◌, ◌==◌, length, replicate, take, Bool, true, if◌then◌else◌}
use Rattle.std.specs.Prelude.{List}
use Rattle.std.specs.Prelude.{Option, None}
use Rattle.dev_core.specs.declared.payload.Payload.{Payload}
use Rattle.dev_core.specs.declared.payload.Taken.{Taken}
use Rattle.dev_core.specs.declared.state.DevState.{DevState}
use Rattle.dev_core.specs.Answered.{Answered}
use Rattle.dev_core.specs.Device.{dev_take, kind_of}
use Rattle.board_space.specs.Space.{with_memory, device_at, with_device, with_state}
use Rattle.board_space.specs.Words.{word_in}
use Rattle.board.specs.View.{View, State, core_at, with_core}
pub use Rattle.board_space.specs.Changes.{is_shown_kind, is_memory, in_memory, holds_each, put_in, put_byte, copied}

-- a board of which a processor's next instruction is at this address
abbrev pub with_pc : View → ℕ → ℕ → View
with_pc v hart pc = with_core v hart (record (core_at v hart) { pc = pc })

-- a board of which a processor is halted, or runs
abbrev pub with_halted : View → ℕ → Bool → View
with_halted v hart on = with_core v hart (record (core_at v hart) { halted = on })

-- a board of so many instructions a microsecond
abbrev pub with_speed : View → ℕ → View
with_speed v speed = record v { numbers = record v.numbers { speed = speed } }

abbrev pub may_be_shown : View → ℕ → Bool
may_be_shown v dev = is_shown_kind (kind_of (device_at v.space dev).state)

-- a board of which a device is shown
abbrev pub with_shown : View → ℕ → View
with_shown v dev =
    record v { space = with_device v.space dev (record (device_at v.space dev) { shown = true }) }

-- what a device answers that is handed a payload, and the board after it
abbrev pub handed_to : View → ℕ → Payload → Answered Taken DevState
handed_to v dev payload = dev_take (device_at v.space dev).state payload

abbrev pub taken_by : View → ℕ → Payload → Taken
taken_by v dev payload = (handed_to v dev payload).answer

abbrev pub handed : View → ℕ → Payload → View
handed v dev payload = record v { space = with_state v.space dev (handed_to v dev payload).after }

-- no reservations of so many processors
abbrev pub cleared : List (Option ℕ) → List (Option ℕ)
cleared watch = replicate (length watch) None

-- a board whose memories have these bytes from an address on, and on which nothing is reserved
abbrev pub with_bytes : View → ℕ → List ℕ → View
with_bytes v at bytes = record v { watch = cleared v.watch; space = copied v.space at bytes }

-- a board that has these bytes in the place of a memory, and on which nothing is reserved
abbrev pub with_memory_in : View → ℕ → List ℕ → View
with_memory_in v part bytes = record v { watch = cleared v.watch; space = with_memory v.space part bytes }

-- the word of memory at an address that is a multiple of 4
abbrev pub word_held : View → ℕ → Option ℕ
word_held v at = if at % 4 == 0 then word_in v.space at else None

-- a board in whose memories some of the first of these bytes were written, and on which nothing is reserved
abbrev pub WritesPrefix : State → State → ℕ → List ℕ → Type 0
WritesPrefix old new at bytes =
    (n : ℕ) × ((n ≤ length bytes) × (new ≡ record old { view = with_bytes old.view at (take n bytes) }))
