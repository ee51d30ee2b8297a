-- What may be changed of the memories and the devices of a board from outside.
use Rattle.std.specs.Prelude.{ℕ, ◌+◌, Bool, true, false}
use Rattle.std.specs.Prelude.{List, []}
use Rattle.std.specs.Prelude.{◌∷◌}
use Rattle.std.specs.List.{list_all, range_with_len}
use Rattle.dev_core.specs.declared.kind.Kind.{Kind}
use Rattle.dev_core.specs.Kind.{row_of}
use Rattle.page_ram.specs.Bytes.{put_bytes}
use Rattle.sys_bus.specs.declared.region.Target.{Target}
use Rattle.sys_bus.specs.declared.region.Target.TheVariants.{Ram, Clint, Plic, Dev, Nothing}
use Rattle.board_space.specs.Space.{Space, memory_at, with_memory, target_at}

-- devices of the kind may be shown
abbrev pub is_shown_kind : Kind → Bool
is_shown_kind kind = (row_of kind).may_be_shown

-- whether an address is that of a byte of a memory
abbrev pub is_memory : Target → Bool
is_memory (Ram part at) = true
is_memory (Dev dev at) = false
is_memory (Clint at) = false
is_memory (Plic at) = false
is_memory Nothing = false

abbrev pub in_memory : Space → ℕ → Bool
in_memory s at = is_memory (target_at s at 1)

-- whether each of so many bytes from an address on is in a memory
abbrev pub holds_each : Space → ℕ → ℕ → Bool
holds_each s at count = list_all (in_memory s) (range_with_len at count)

-- a byte is put in its place in a memory
abbrev pub put_in : Space → ℕ → Target → Space
put_in s byte (Ram part at) = with_memory s part (put_bytes (memory_at s part) at (byte ∷ []))
put_in s byte (Dev dev at) = s
put_in s byte (Clint at) = s
put_in s byte (Plic at) = s
put_in s byte Nothing = s

abbrev pub put_byte : Space → ℕ → ℕ → Space
put_byte s at byte = put_in s byte (target_at s at 1)

-- bytes are put in memories, one after another from an address on
abbrev pub copied : Space → ℕ → List ℕ → Space
copied s at [] = s
copied s at (byte ∷ bytes) = copied (put_byte s at byte) (at + 1) bytes
