-- Parts of a line, names and registers, as lists of bytes.
use Rattle.std.specs.Prelude.{ℕ, ◌+◌, ◌-◌, ◌*◌, ◌==◌, nat_lt, nat_le, take, drop, length, Bool, ◌&&◌, ◌||◌}
use Rattle.std.specs.Prelude.{List, [], ◌∷◌, if◌then◌else◌, Option, Some, None}
use Rattle.std.specs.List.{prefix_len, suffix_len, position_or_len, before_first, after_first}
use Rattle.std.specs.Char.{is_ascii_digit}
use Rattle.std.specs.Str.{byte}

-- a space or a tab
abbrev pub is_blank : ℕ → Bool
is_blank b = b == byte " " || b == byte "\t"

-- a text from its first byte on that is no blank
abbrev pub without_front : List ℕ → List ℕ
without_front text = drop (prefix_len is_blank text) text

-- a text up to its last byte that is no blank
abbrev pub without_back : List ℕ → List ℕ
without_back text = take (length text - suffix_len is_blank text) text

-- a text without the blanks around it
unfoldable pub trimmed : List ℕ → List ℕ
trimmed text = without_back (without_front text)

-- what stands before and after the first such sign, if there is one
abbrev pub cut : ℕ → List ℕ → Option (List ℕ × List ℕ)
cut sign text =
    if nat_lt (position_or_len (λ b. b == sign) text) (length text)
    then Some (before_first (λ b. b == sign) text, after_first (λ b. b == sign) text)
    else None

-- by whether there was such a sign
abbrev pub with_cut : {X : Type 0} → Option (List ℕ × List ℕ) → X → (List ℕ → List ℕ → X) → X
with_cut None alone both = alone
with_cut (Some x) alone both = both x.0 x.1

-- a line without its comment
abbrev pub code_of : List ℕ → List ℕ
code_of line = with_cut (cut (byte "#") line) line (λ code comment. code)

-- the number that two decimal digits write
abbrev pub ten_and_one : ℕ → ℕ → ℕ
ten_and_one a b = (a - byte "0") * 10 + (b - byte "0")

-- the number of a register `x0` to `x31`, written without a further 0 in front
abbrev pub register_of : List ℕ → Option ℕ
register_of [] = None
register_of (x ∷ []) = None
register_of (x ∷ a ∷ []) = if x == byte "x" && is_ascii_digit a then Some (a - byte "0") else None
register_of (x ∷ a ∷ b ∷ []) =
    if x == byte "x" && is_ascii_digit a && is_ascii_digit b && nat_lt (byte "0") a && nat_le (ten_and_one a b) 31
    then Some (ten_and_one a b)
    else None
register_of (x ∷ a ∷ b ∷ c ∷ more) = None
