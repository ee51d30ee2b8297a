-- The plan of the board that entries describe, or their first fault.
use Rattle.std.specs.Prelude.{◌≡◌, ℕ, List, [], ◌∷◌, ◌++◌, Option, Some, None, Result, Ok, Err, unwrap_or}
use Rattle.std.specs.Prelude.{codes, map, filter, false}
use Rattle.std.specs.List.{filter_map, sum_by}
use Rattle.std.specs.Option.{option_map}
use Rattle.dev_core.specs.declared.kind.Kind.{Kind}
use Rattle.repl_read.specs.declared.entry.Entry.{Entry}
use Rattle.repl_read.specs.declared.fault.PlatCause.TheVariants.{Count}
use Rattle.repl_read.specs.declared.fault.PlatFault.{PlatFault}
use Rattle.repl_read.specs.declared.fault.PlatFault.TheVariants.{At, Memory}
use Rattle.rv_hart.specs.declared.letters.Letters.{Letters}
use Rattle.sys_bus.specs.declared.plan.BoardPlan.{BoardPlan}
use Rattle.sys_bus.specs.declared.plan.Named.{Named}
use Rattle.sys_bus.specs.declared.plan.NamedWhat.{NamedWhat}
use Rattle.sys_bus.specs.declared.plan.NamedWhat.TheVariants as what
use Rattle.sys_bus.specs.declared.plan.PlicSize.{PlicSize}
use Rattle.sys_bus.specs.declared.region.Region.{Region}
use Rattle.sys_bus.specs.declared.wire.Wire.{Wire}
use Rattle.repl_build.specs.declared.merge.Peripheral.{Peripheral}
use Rattle.repl_build.specs.declared.rules.Rule.TheVariants.{Types, Attributes, Required, Values, Core, Counts, Apart}
use Rattle.repl_build.specs.declared.rules.Rule.TheVariants.{References}
use Rattle.repl_build.specs.declared.types.PeripheralType.{PeripheralType}
use Rattle.repl_build.specs.declared.types.PeripheralType.TheVariants as kind
use Rattle.repl_build.specs.Attributes.{number_of}
use Rattle.repl_build.specs.Counts.{first_with, is_bare}
use Rattle.repl_build.specs.First.{◌>>=◌, refuse, fault_if}
use Rattle.repl_build.specs.Merge.{merged}
use Rattle.repl_build.specs.Names.{repeated, untyped}
use Rattle.repl_build.specs.Numbers.{devices_of, what_of}
use Rattle.repl_build.specs.Places.{base_of, size_of, step_of}
use Rattle.repl_build.specs.Processors.{cpus_of, first_letters, speed_of}
use Rattle.repl_build.specs.Rules.{broken}
use Rattle.repl_build.specs.Types.{is_type}
use Rattle.repl_build.specs.Wires.{placed_wires, items_wires}

-- lists of what each member of a list gives, after those before it
abbrev pub each : {X Y : Type 0} → (List X → X → List Y) → List X → List X → List Y
each f before [] = []
each f before (x ∷ xs) = f before x ++ each f (before ++ x ∷ []) xs

abbrev pub name_by : List ℕ → Option NamedWhat → List Named
name_by name None = []
name_by name (Some what) = record { name = name; what = what } ∷ []

abbrev pub name_of : List Peripheral → Peripheral → List Named
name_of before p = name_by p.name (what_of before p.kind)

abbrev pub region_by : Peripheral → Option NamedWhat → List Region
region_by p (Some (what.Part part)) =
    record { base = base_of p; size = size_of p; kind = part; step = step_of p.kind p.items } ∷ []
region_by p (Some what.Cpu) = []
region_by p None = []

abbrev pub region_of : List Peripheral → Peripheral → List Region
region_of before p = region_by p (what_of before p.kind)

abbrev pub memories_of : List Peripheral → List ℕ
memories_of all = map size_of (filter (λ p. is_type kind.Memory p.kind) all)

abbrev pub kind_by : Option PeripheralType → Option Kind
kind_by (Some (kind.Device device)) = Some device
kind_by _ = None

abbrev pub kinds_of : List Peripheral → List Kind
kinds_of all = filter_map (λ p. kind_by p.kind) all

abbrev pub clint_frequency : Peripheral → ℕ
clint_frequency p = number_of (codes "frequency") 0 p.items

abbrev pub frequency_of : List Peripheral → Option ℕ
frequency_of all = option_map clint_frequency (first_with kind.Clint all)

abbrev pub plic_size_of : Peripheral → PlicSize
plic_size_of p =
    record {
      sources = number_of (codes "numberOfSources") 0 p.items;
      contexts = number_of (codes "numberOfContexts") 1 p.items;
    }

abbrev pub plic_of : List Peripheral → Option PlicSize
plic_of peripherals = option_map plic_size_of (first_with kind.Plic peripherals)

-- the letters of the processors, which all have the same
abbrev pub letters_of : List Peripheral → Letters
letters_of all = unwrap_or (first_letters all) (record { a = false; c = false })

-- test 11, and the wires in the order of peripherals, items and pairs
abbrev pub wires_from : Option PlicSize → List Peripheral → List Peripheral → List Peripheral →
    Result (List Wire) PlatFault
wires_from plic all before [] = Ok []
wires_from plic all before (p ∷ ps) = do
  first ← items_wires (placed_wires plic all p.kind (devices_of before)) p.items
  rest ← wires_from plic all (before ++ p ∷ []) ps
  Ok (first ++ rest)

abbrev pub wires_of : List Peripheral → Result (List Wire) PlatFault
wires_of all = wires_from (plic_of all) all [] all

abbrev pub plan_with : List Peripheral → List Wire → BoardPlan
plan_with all wires =
    record {
      names = each name_of [] all;
      regions = each region_of [] all;
      memories = memories_of all;
      kinds = kinds_of all;
      frequency = frequency_of all;
      plic = plic_of all;
      wires = wires;
      speed = sum_by speed_of all;
      cpus = cpus_of all;
      letters = letters_of all;
    }

-- tests 3 to 10, in their order
abbrev pub tested : List Peripheral → Result (Unit {0}) PlatFault
tested all = do
  types ← refuse (broken Types all)
  attributes ← refuse (broken Attributes all)
  required ← refuse (broken Required all)
  values ← refuse (broken Values all)
  core ← refuse (broken Core all)
  counts ← refuse (broken Counts all)
  whole ← refuse (fault_if (is_bare all) (At 0 0 Count))
  apart ← refuse (broken Apart all)
  refuse (broken References all)

abbrev pub plan_of : List Peripheral → Result BoardPlan PlatFault
plan_of all = do
  good ← tested all
  wires ← wires_of all
  Ok (plan_with all wires)

-- the plan of the board that entries describe, or their first fault
unfoldable pub built : List Entry → Result BoardPlan PlatFault
built entries = do
  once ← refuse (repeated entries)
  typed ← refuse (untyped entries)
  plan_of (merged entries)

-- the plan or the first fault, unless memory runs out
abbrev pub Gives : {X : Type 0} → Result X PlatFault → Result X PlatFault → Type 0
Gives (Ok x) meant = meant ≡ Ok x
Gives (Err (At file line cause)) meant = meant ≡ Err (At file line cause)
Gives (Err Memory) meant = Unit {0}

abbrev pub Builds : List Entry → Result BoardPlan PlatFault → Type 0
Builds entries result = Gives result (built entries)
