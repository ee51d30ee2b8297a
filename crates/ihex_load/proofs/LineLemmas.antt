-- The first line of a text.
use Rattle.std.proofs.Common.{◌≡◌, ◌∷◌, ◌<◌, ◌+◌, ℕ, List, [], length, take, drop, Bool, true, false}
use Rattle.std.proofs.Common.{Some, None}
use Rattle.std.proofs.Common.{nat_lt, ◌≤◌, refl}
use Rattle.std.specs.List.{position, position_or_len}
use Rattle.std.specs.Str.Lines.{lines, strip_carriage_return}
use Rattle.std.proofs.lemmas.Bool.{ltb-true, ltb-false}
use Rattle.std.proofs.lemmas.Option.{cond_some}
use Rattle.lab_num.proofs.LineLemmas.{feed, line_before, last_line}

pub first_line : (n : ℕ) (text : List ℕ) → position feed text ≡ Some n →
    lines text ≡ strip_carriage_return (take n text) ∷ lines (drop (n + 1) text)
first_line n text is =
    let known = cond_some (nat_lt (position_or_len feed text) (length text)) (position_or_len feed text) n is in
    rw (← known.1) (line_before text (ltb-true _ _ known.0))

-- in a text without a line feed none of its bytes is one
no_feed : (text : List ℕ) (inside : Bool) → nat_lt (position_or_len feed text) (length text) ≡ inside →
    position feed text ≡ None → length text ≤ position_or_len feed text
no_feed text true inside is = absurd (let e : Some (position_or_len feed text) ≡ None = rw inside at is in cc)
no_feed text false inside is = ltb-false _ _ inside

pub sole_line : (text : List ℕ) → 0 < length text → position feed text ≡ None → lines text ≡ text ∷ []
sole_line text some is = last_line text some (no_feed text _ refl is)
