-- A line whose first words begin no row of a part of the table.
use Rattle.std.proofs.Common.{◌≡◌, ◌≢◌, Bool, true, false, List, ℕ, codes, refl, sym}
use Rattle.std.specs.Bool.{Decides}
use Rattle.std.specs.Str.{bytes_eq}
use Rattle.std.proofs.lemmas.Slice.Eq.{bytes_eq-Decides}
use Rattle.resc_read.specs.Table.{word_at, by_machine_rows, by_word_rows}

not_decided : {P : Type 0} (r : Bool) → Decides r P → (P → ⊥) → r ≡ false
not_decided true decides absent = absurd (absent (decides.0 refl))
not_decided false decides absent = refl

pub differ : {xs : List ℕ} {ys : List ℕ} → (xs ≡ ys → ⊥) → bytes_eq xs ys ≡ false
differ {xs} {ys} absent = not_decided (bytes_eq xs ys) (bytes_eq-Decides xs ys) absent

pub no_word_row :
    {first : List ℕ} (words : List (List ℕ)) → first ≡ word_at words 0 →
    first ≢ codes "showAnalyzer" → first ≢ codes "include" → first ≢ codes "runMacro" →
    first ≢ codes "Save" → first ≢ codes "Load" → first ≢ codes "pause" → first ≢ codes "start" →
    first ≢ codes "quit" → by_word_rows words ≡ by_machine_rows words
unfolding by_word_rows
no_word_row words first show include run save load pause start quit =
    rw (
      sym first,
      differ show,
      differ include,
      differ run,
      differ save,
      differ load,
      differ pause,
      differ start,
      differ quit,
    ) refl
