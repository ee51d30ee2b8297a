-- What may be performed of what was fetched.
use Rattle.rv_decode.specs.Means.{IsValid}
use Rattle.rv_hart.specs.declared.letters.Letters.{Letters}
use Rattle.rv_hart.specs.Core.{IsSize}
use Rattle.rv_exec.specs.declared.fetched.Fetched.{Fetched}
use Rattle.rv_exec.specs.declared.fetched.Fetched.TheVariants.{Fault, Bad, Good}

-- by a hart of these letters: an instruction that some word means, of a size that it may have there
abbrev pub IsPerformable : Letters → Fetched → Type 0
IsPerformable letters (Fault at) = Unit {0}
IsPerformable letters (Bad word) = Unit {0}
IsPerformable letters (Good i size word) = IsValid i × IsSize letters size
