-- The types of peripherals, by their names. Those of devices stand in Kind.antt of dev_core; of these, CAN.SJA1000 and
-- Miscellaneous.SiFiveTest are the laboratory's own. All others are Renode's.
use Rattle.std.specs.Prelude.{ℕ, Bool, true, false, List, Option, Some, if◌then◌else◌, codes}
use Rattle.std.specs.Option.{option_map}
use Rattle.std.specs.Str.{bytes_eq}
use Rattle.dev_core.specs.Kind.{is_kind, kind_called}
use Rattle.repl_build.specs.declared.types.PeripheralType.{PeripheralType}
use Rattle.repl_build.specs.declared.types.PeripheralType.TheVariants.{Cpu, Memory, Clint, Plic, Device}

abbrev pub type_of : List ℕ → Option PeripheralType
type_of name =
    if bytes_eq name (codes "CPU.RiscV32") then Some Cpu
    else if bytes_eq name (codes "Memory.MappedMemory") then Some Memory
    else if bytes_eq name (codes "IRQControllers.CoreLevelInterruptor") then Some Clint
    else if bytes_eq name (codes "IRQControllers.PlatformLevelInterruptController") then Some Plic
    else option_map Device (kind_called name)

-- a peripheral's type is this one
abbrev pub is_type : PeripheralType → Option PeripheralType → Bool
is_type Cpu (Some Cpu) = true
is_type Memory (Some Memory) = true
is_type Clint (Some Clint) = true
is_type Plic (Some Plic) = true
is_type (Device a) (Some (Device b)) = is_kind a b
is_type _ _ = false
