-- The lines of a text: the first of them, and how many there are.
use Rattle.std.proofs.Common.{◌≡◌, ◌∙◌, ℕ, ◌+◌, ◌<◌, ◌≤◌, ◌==◌, Bool, true, false, not, cond, List, [], ◌∷◌, length}
use Rattle.std.proofs.Common.{take, drop, if◌then◌else◌, arith, refl, ap}
use Rattle.std.specs.List.{All, slice_split, onto_first, position_or_len}
use Rattle.std.specs.Str.Lines.{lines, lines_of_parts, strip_carriage_return}
use Rattle.std.proofs.lemmas.Bool.{not-true}
use Rattle.std.proofs.lemmas.Bool.Decides.{nat_tests}
use Rattle.std.proofs.lemmas.List.Elements.{All-from_get_or}
use Rattle.std.proofs.lemmas.List.Splits.{length-slice_split, slice_split_first, slice_split_none}
use Rattle.std.proofs.lemmas.List.Sums.{count_by-le-length, prefix_len_passes}

abbrev pub feed : ℕ → Bool
feed b = b == 10

-- a text has at least one part
first_part : (b : Bool) (x : ℕ) (parts : List (List ℕ)) →
    (first : List ℕ) × (others : List (List ℕ))
    × ((if b then [] ∷ parts else onto_first x parts) ≡ first ∷ others)
first_part true x parts = ([], parts, refl)
first_part false x [] = (x ∷ [], [], refl)
first_part false x (part ∷ parts) = (x ∷ part, parts, refl)

some_part : (text : List ℕ) → (first : List ℕ) × (others : List (List ℕ)) × (slice_split feed text ≡ first ∷ others)
some_part [] = ([], [], refl)
some_part (x ∷ text) = first_part (feed x) x (slice_split feed text)

-- the line before a part that stands after a line feed
before_part : (line text : List ℕ) →
    lines_of_parts (line ∷ slice_split feed text) ≡ strip_carriage_return line ∷ lines text
before_part line text = let (first, others, is) = some_part text in rw is refl

pub line_before : (text : List ℕ) → position_or_len feed text < length text →
    lines text
    ≡ strip_carriage_return (take (position_or_len feed text) text) ∷ lines (drop (position_or_len feed text + 1) text)
line_before text within =
    ap lines_of_parts (slice_split_first {X = ℕ} feed text 0 within)
    ∙ before_part (take (position_or_len feed text) text) (drop (position_or_len feed text + 1) text)

pub last_line : (text : List ℕ) → 0 < length text → length text ≤ position_or_len feed text → lines text ≡ text ∷ []
last_line text some none =
    let all : All (λ b. feed b ≡ false) text = All-from_get_or (λ b. feed b ≡ false) text 0 (λ i h. not-true _
    (prefix_len_passes (λ b. not (feed b)) text i 0 (omega (arith, none)))) in
    ap lines_of_parts (slice_split_none feed text all) ∙ one_line text some
  where
    one_line : (text : List ℕ) → 0 < length text → lines_of_parts (text ∷ []) ≡ text ∷ []
    one_line (b ∷ bs) some = grind (arith, nat_tests)
    one_line [] some = absurd (omega arith)

-- ---- a text has at most one line more than bytes

lines_of_parts-le : (parts : List (List ℕ)) → length (lines_of_parts parts) ≤ length parts
lines_of_parts-le [] = omega arith
lines_of_parts-le (x ∷ []) = one (length x == 0)
  where
    one : (b : Bool) → length (cond b [] (x ∷ [])) ≤ length (x ∷ [])
    one true = omega arith
    one false = omega arith
lines_of_parts-le (x ∷ y ∷ more) =
    let rest = lines_of_parts-le (y ∷ more) in omega (arith, rest)

pub lines-le : (text : List ℕ) → length (lines text) ≤ length text + 1
lines-le text =
    let parts = slice_split feed text in
    omega (arith, lines_of_parts-le parts, length-slice_split feed text, count_by-le-length feed text)
