-- The number of a board makes a name.
use Rattle.std.proofs.Common.{◌≡◌, ℕ, ◌<◌, ◌^◌, ◌++◌, true, codes, arith}
use Rattle.std.specs.Fmt.{decimal}
use Rattle.std.proofs.lemmas.Bool.Decides.{nat_tests}
use Rattle.lab_num.specs.Name.{is_name}
use Rattle.lab_num.proofs.NameLemmas.{digits_are}

-- `machine-` and a number
pub machine_name : (n : ℕ) → n < 2 ^ 64 → is_name (codes "machine-" ++ decimal n) ≡ true
machine_name n small = rw (digits_are n small) (grind (arith, nat_tests))
