-- Calls on a CAN controller one after another, and what a program writes to its transmit buffer.
use Rattle.std.specs.Prelude.{◌≡◌, ℕ, ◌%◌, ◌^◌, ◌<◌, ◌≤◌, List, fold, length, slice_index, All}
use Rattle.dev_core.specs.declared.can_state.CanState.{CanState}
use Rattle.dev_core.specs.declared.payload.Payload.{Payload}
use Rattle.dev_core.specs.Can.{can_load, can_store, can_take}

-- a load of a register, a store of a value in it, or a payload that is handed over
pub data Call : Type 0 where
  loads : ℕ → Call
  stores : ℕ → ℕ → Call
  takes : Payload → Call

abbrev pub after_call : CanState → Call → CanState
after_call c (loads reg) = (can_load c reg).after
after_call c (stores reg value) = (can_store c reg value).after
after_call c (takes payload) = (can_take c payload).after

-- the state after all of them, in their order
abbrev pub after_calls : CanState → List Call → CanState
after_calls c calls = fold after_call c calls

-- ten bytes that may be written to the transmit buffer, with a data length code of at most 8
pub record IsWritten (bytes : List ℕ) : Type 0 where
  pub places : length bytes ≡ 10
  pub fits : All (λ byte. byte < 2 ^ 8) bytes
  pub code : slice_index bytes 1 % 2 ^ 4 ≤ 8
