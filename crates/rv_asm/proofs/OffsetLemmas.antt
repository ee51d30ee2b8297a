-- The offset of a target in its field, from the number as the code holds it.
use Rattle.std.proofs.Common.{◌≡◌, ℕ, ◌^◌, ◌<◌, refl, ap, List, Option, Some, None, Ok, Err}
use Rattle.std.specs.Option.{option_map}
use Rattle.rv_asm.specs.declared.fault.AsmCause.{AsmCause}
use Rattle.rv_asm.specs.declared.numbers.Number.{Number}
use Rattle.rv_asm.specs.Numbers.{even_in_field}
use Rattle.rv_asm.specs.Lines.{target_by, ◌>>=◌}
use Rattle.rv_asm.specs.Inner.Saturated.{saturated}
use Rattle.rv_asm.proofs.NumeralLemmas.{even_in_field-saturated}

pub target_number :
    (places : List ℕ → Option ℕ) (here least greatest : ℕ) (text : List ℕ) (o : Option Number) (x : Number) →
    least < 2 ^ 32 → greatest < 2 ^ 32 → option_map saturated o ≡ Some x →
    Ok (even_in_field least greatest x) ≡
    (target_by places here text o >>= λ offset. Ok (even_in_field least greatest offset))
target_number places here least greatest text None x small_least small_greatest is = cc
target_number places here least greatest text (Some n) x small_least small_greatest is =
    let same : saturated n ≡ x = cc in
    rw (← same) (ap Ok (even_in_field-saturated least greatest n small_least small_greatest))

pub target_label :
    (places : List ℕ → Option ℕ) (here least greatest : ℕ) (text : List ℕ) (o : Option Number) (x : Number) →
    option_map saturated o ≡ None → target_by places here text None ≡ Ok x →
    Ok (even_in_field least greatest x) ≡
    (target_by places here text o >>= λ offset. Ok (even_in_field least greatest offset))
target_label places here least greatest text None x no_number is = rw is refl
target_label places here least greatest text (Some n) x no_number is = cc

pub target_fault :
    (places : List ℕ → Option ℕ) (here least greatest : ℕ) (text : List ℕ) (o : Option Number) (cause : AsmCause) →
    option_map saturated o ≡ None → target_by places here text None ≡ Err cause →
    Err cause ≡ (target_by places here text o >>= λ offset. Ok (even_in_field least greatest offset))
target_fault places here least greatest text None cause no_number is = rw is refl
target_fault places here least greatest text (Some n) cause no_number is = cc
