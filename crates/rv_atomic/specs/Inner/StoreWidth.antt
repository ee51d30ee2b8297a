-- The stores among the instructions (RISC-V Unprivileged ISA 20191213, section 2.6).
use Rattle.std.specs.Prelude.{ℕ, ◌%◌, ◌==◌, if◌then◌else◌, Option, Some, None}
use Rattle.rv_decode.specs.declared.instruction.Op.{Op}
use Rattle.rv_decode.specs.declared.instruction.Op.TheVariants.{Sb, Sh, Sw}
use Rattle.rv_atomic.specs.declared.span.Span.{Span}

-- how many bytes an instruction stores, if it is a store
abbrev pub store_width : Op → Option ℕ
store_width Sb = Some 1
store_width Sh = Some 2
store_width Sw = Some 4
store_width _ = None

-- the bytes from an address on, if it is divisible by how many there are
abbrev pub aligned_span : ℕ → ℕ → Option Span
aligned_span at width = if at % width == 0 then Some (record { at = at; width = width }) else None
