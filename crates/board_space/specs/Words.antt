-- The words and half-words that memories hold (RISC-V Unprivileged ISA 20191213, section 1.5).
use Rattle.std.specs.Prelude.{ℕ, Option, None, Some}
use Rattle.page_ram.specs.Bytes.{value_at}
use Rattle.sys_bus.specs.declared.region.Target.{Target}
use Rattle.sys_bus.specs.declared.region.Target.TheVariants.{Ram, Clint, Plic, Dev, Nothing}
use Rattle.board_space.specs.Space.{Space, memory_at, target_at}
use Rattle.std.specs.Prelude.{◌+◌, ◌*◌, ◌%◌, ◌^◌}
use Rattle.std.specs.Option.{option_map}

-- the word of an instruction at an address, if a memory holds it
abbrev pub word_at : Space → Target → Option ℕ
word_at s (Ram part at) = Some (value_at (memory_at s part) at 4)
word_at s (Dev dev at) = None
word_at s (Clint at) = None
word_at s (Plic at) = None
word_at s Nothing = None

abbrev pub word_in : Space → ℕ → Option ℕ
word_in s at = word_at s (target_at s at 4)

-- the half-word at an address, if a memory holds it
abbrev pub half_at : Space → Target → Option ℕ
half_at s (Ram part at) = Some (value_at (memory_at s part) at 2)
half_at s (Dev dev at) = None
half_at s (Clint at) = None
half_at s (Plic at) = None
half_at s Nothing = None

abbrev pub half_in : Space → ℕ → Option ℕ
half_in s at = half_at s (target_at s at 2)

-- the address of the second half-word: after 2^32 - 2 comes 0
abbrev pub second : ℕ → ℕ
second at = (at + 2) % 2 ^ 32

-- the word whose lower half is this half-word, if a memory holds the other
abbrev pub word_begun : Space → ℕ → ℕ → Option ℕ
word_begun s at half = option_map (λ upper. half + upper * 2 ^ 16) (half_in s (second at))
