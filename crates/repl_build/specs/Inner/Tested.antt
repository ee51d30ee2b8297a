-- Peripherals that keep all rules.
use Rattle.std.specs.Prelude.{◌≡◌, List, Ok}
use Rattle.repl_build.specs.declared.merge.Peripheral.{Peripheral}
use Rattle.repl_build.specs.Plan.{tested}

-- tests 3 to 10 find no fault
abbrev pub IsTested : List Peripheral → Type 0
IsTested all = tested all ≡ Ok tt
