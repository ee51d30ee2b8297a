-- What peripherals are on a board, and their numbers there.
use Rattle.std.specs.Prelude.{ℕ, ◌<◌, Bool, true, false, List, Option, Some, None, count_by}
use Rattle.sys_bus.specs.declared.plan.NamedWhat.{NamedWhat}
use Rattle.sys_bus.specs.declared.plan.NamedWhat.TheVariants as what
use Rattle.sys_bus.specs.declared.region.RegionKind.TheVariants as part
use Rattle.repl_build.specs.declared.merge.Peripheral.{Peripheral}
use Rattle.repl_build.specs.declared.types.PeripheralType.{PeripheralType}
use Rattle.repl_build.specs.declared.types.PeripheralType.TheVariants.{Cpu, Memory, Clint, Plic, Device}
use Rattle.repl_build.specs.Counts.{count_of}

abbrev pub is_device : Option PeripheralType → Bool
is_device (Some (Device kind)) = true
is_device _ = false

-- how many devices there are
abbrev pub devices_of : List Peripheral → ℕ
devices_of peripherals = count_by (λ p. is_device p.kind) peripherals

-- memories and devices are numbered in the order of the entries
abbrev pub what_of : List Peripheral → Option PeripheralType → Option NamedWhat
what_of before (Some Cpu) = Some what.Cpu
what_of before (Some Memory) = Some (what.Part (part.Ram (count_of before Memory)))
what_of before (Some Clint) = Some (what.Part part.Clint)
what_of before (Some Plic) = Some (what.Part part.Plic)
what_of before (Some (Device kind)) = Some (what.Part (part.Dev (devices_of before)))
what_of before None = None

-- their numbers are those of bytes
abbrev pub AreFew : List Peripheral → Type 0
AreFew peripherals = (count_of peripherals Memory < 256) × (devices_of peripherals < 256)
