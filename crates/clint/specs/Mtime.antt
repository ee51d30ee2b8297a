-- The counter mtime, whose time goes by the laboratory's clock (RISC-V Privileged Architecture 20211203, 3.2.1).
use Rattle.std.specs.Prelude.{ℕ, ◌+◌, ◌*◌, ◌/◌, ◌-◌, ◌%◌, ◌^◌}

-- how often a counter of so many hertz rises until a microsecond of lab time
unfoldable pub ticks : ℕ → ℕ → ℕ
ticks frequency now = now * frequency / 1000000

-- what a counter of 64 bits shows that began at an offset
unfoldable pub counter : ℕ → ℕ → ℕ
counter offset ticks = (offset + ticks) % 2 ^ 64

-- the offset of a counter that shows a value
unfoldable pub offset_for : ℕ → ℕ → ℕ
offset_for value ticks = (value + (2 ^ 64 - ticks % 2 ^ 64)) % 2 ^ 64
