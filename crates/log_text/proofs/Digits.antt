-- What a format writes of numbers.
use Rattle.std.proofs.Common.{◌≡◌, ℕ, ◌-◌, ◌^◌, ◌<◌, ◌≤◌, List, [], ◌++◌, false, codes, ◌⊎◌, append-nil, arith}
use Rattle.std.proofs.Math.Nat.{sub-zero}
use Rattle.std.specs.Fmt.{digits, padded_integral, format_spec, char_count}
use Rattle.std.proofs.lemmas.Bool.Decides.{nat_tests}
use Rattle.log_text.specs.Log.{escaped}
use Rattle.log_text.specs.Number.{filled}

-- what `{n:06}`, `{n:08x}`, `{n:03x}` and `{n:02x}` write of a number's digits
pub filled_six :
    (shown : List ℕ) → padded_integral (format_spec 32 0 4 6 (2 ^ 64 - 1)) false [] shown ≡ filled 6 shown
unfolding padded_integral char_count
filled_six shown = simp (sub-zero, append-nil)

pub filled_eight :
    (shown : List ℕ) → padded_integral (format_spec 32 0 4 8 (2 ^ 64 - 1)) false [] shown ≡ filled 8 shown
unfolding padded_integral char_count
filled_eight shown = simp (sub-zero, append-nil)

pub filled_three :
    (shown : List ℕ) → padded_integral (format_spec 32 0 4 3 (2 ^ 64 - 1)) false [] shown ≡ filled 3 shown
unfolding padded_integral char_count
filled_three shown = simp (sub-zero, append-nil)

pub filled_two :
    (shown : List ℕ) → padded_integral (format_spec 32 0 4 2 (2 ^ 64 - 1)) false [] shown ≡ filled 2 shown
unfolding padded_integral char_count
filled_two shown = simp (sub-zero, append-nil)

-- a byte that is shown by its two hexadecimal digits
pub escaped_hex :
    (byte : ℕ) → (byte ≡ 92 → ⊥) → (byte ≡ 9 → ⊥) → (byte ≡ 13 → ⊥) → (byte < 32) ⊎ (127 ≤ byte) →
    codes "\\x" ++ padded_integral (format_spec 32 0 4 2 (2 ^ 64 - 1)) false [] (digits 16 false byte)
    ≡ escaped byte
escaped_hex byte not_92 not_9 not_13 far = rw (filled_two (digits 16 false byte)) (grind (arith, nat_tests))
