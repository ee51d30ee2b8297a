-- A number written in decimal consists of bytes of a name.
use Rattle.std.proofs.Common.{◌≡◌, ℕ, ◌+◌, ◌<◌, ◌^◌, ◌%◌, true, refl, arith}
use Rattle.std.specs.Fmt.{decimal}
use Rattle.std.specs.List.{list_all}
use Rattle.std.proofs.lemmas.Bool.Decides.{nat_tests}
use Rattle.std.proofs.lemmas.Fmt.{decimal_by_steps}
use Rattle.std.proofs.lemmas.List.Folds.{list_all-append}
use Rattle.lab_num.specs.Name.{is_name_byte}

digit_is : (d : ℕ) → d < 10 → is_name_byte (48 + d) ≡ true
digit_is d small = grind (arith, nat_tests)

pub digits_are : (n : ℕ) → n < 2 ^ 64 → list_all is_name_byte (decimal n) ≡ true
digits_are =
    decimal_by_steps (λ n ds. list_all is_name_byte ds ≡ true) (λ n small. rw (digit_is n small) refl)
    (λ n ds large is. rw (list_all-append is_name_byte ds, is, digit_is (n % 10) (omega arith)) refl)
