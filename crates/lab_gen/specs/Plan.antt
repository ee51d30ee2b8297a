-- The plan of every generated board.
use Rattle.std.specs.Prelude.{List, [], ◌∷◌, codes, false, None}
use Rattle.dev_core.specs.declared.kind.Kind.TheVariants.{Uart}
use Rattle.sys_bus.specs.declared.plan.BoardPlan.{BoardPlan}
use Rattle.sys_bus.specs.declared.plan.Named.{Named}
use Rattle.sys_bus.specs.declared.plan.NamedWhat.TheVariants.{Cpu, Part}
use Rattle.sys_bus.specs.declared.region.Region.{Region}
use Rattle.sys_bus.specs.declared.region.RegionKind.TheVariants.{Ram, Dev}

abbrev pub names : List Named
names =
    record { name = codes "ram"; what = Part (Ram 0) }
    ∷ record { name = codes "uart"; what = Part (Dev 0) }
    ∷ record { name = codes "cpu"; what = Cpu }
    ∷ []

-- 64 KiB of memory at 0x80000000 and a UART at 0x10000000
abbrev pub regions : List Region
regions =
    record { base = 0x80000000; size = 0x10000; kind = Ram 0; step = 1 }
    ∷ record { base = 0x10000000; size = 0x100; kind = Dev 0; step = 1 }
    ∷ []

-- 10 instructions in a microsecond, no wires, and a processor without optional extensions
abbrev pub plan : BoardPlan
plan = record {
  names = names;
  regions = regions;
  memories = 0x10000 ∷ [];
  kinds = Uart ∷ [];
  frequency = None;
  plic = None;
  wires = [];
  speed = 10;
  cpus = codes "cpu" ∷ [];
  letters = record { a = false; c = false };
}
