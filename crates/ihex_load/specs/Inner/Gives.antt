-- A part of a reading.
use Rattle.std.specs.Prelude.{◌≡◌, Result, Ok, Err}
use Rattle.ihex_load.specs.declared.fault.HexFault.{HexFault}
use Rattle.ihex_load.specs.declared.fault.HexFault.TheVariants.{Memory}

-- what was returned, seen by view, is what a definition says, unless memory ran out
abbrev pub Gives : {X Y : Type 0} → (X → Y) → Result Y HexFault → Result X HexFault → Type 0
Gives view meant (Ok x) = meant ≡ Ok (view x)
Gives view meant (Err Memory) = Unit {0}
Gives view meant (Err fault) = meant ≡ Err fault
