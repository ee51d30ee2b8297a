-- The lines of a text behind a line feed are its own.
use Rattle.std.proofs.Common.{◌≡◌, ◌∷◌, ◌++◌, ◌<◌, ◌==◌, ◌∙◌, ℕ, cond, Bool, true, false, List, [], length, map}
use Rattle.std.proofs.Common.{refl, sym, ap, arith, append_assoc, append-nil}
use Rattle.std.specs.List.{slice_split, onto_first}
use Rattle.std.specs.Str.Lines.{lines, lines_of_parts, strip_carriage_return}
use Rattle.std.proofs.lemmas.List.Splits.{length-slice_split}
use Rattle.std.proofs.lemmas.List.{length-append}

abbrev feed : ℕ → Bool
feed b = b == 10

abbrev parts : List ℕ → List (List ℕ)
parts text = slice_split feed text

onto_more : (b : Bool) (x : ℕ) (some others : List (List ℕ)) → 0 < length some →
    cond b ([] ∷ (some ++ others)) (onto_first x (some ++ others)) ≡ cond b ([] ∷ some) (onto_first x some) ++ others
onto_more b x [] others is = absurd (omega arith)
onto_more true x (part ∷ some) others is = refl
onto_more false x (part ∷ some) others is = refl

split_more : (front more : List ℕ) → parts (front ++ 10 ∷ more) ≡ parts front ++ parts more
split_more [] more = refl
split_more (x ∷ front) more =
    rw (split_more front more)
    (onto_more (feed x) x (parts front) (parts more) (omega (arith, length-slice_split feed front)))

before : (part : List ℕ) (others : List (List ℕ)) → 0 < length others →
    lines_of_parts (part ∷ others) ≡ strip_carriage_return part ∷ lines_of_parts others
before part [] some = absurd (omega arith)
before part (other ∷ others) some = refl

parts_more : (some others : List (List ℕ)) → 0 < length others →
    lines_of_parts (some ++ others) ≡ map strip_carriage_return some ++ lines_of_parts others
parts_more [] others is = refl
parts_more (part ∷ some) others is =
    before part (some ++ others) (omega (arith, length-append some others))
    ∙ ap (λ xs. strip_carriage_return part ∷ xs) (parts_more some others is)

lines_behind : (front more : List ℕ) →
    lines (front ++ 10 ∷ more) ≡ map strip_carriage_return (parts front) ++ lines more
lines_behind front more =
    ap lines_of_parts (split_more front more)
    ∙ parts_more (parts front) (parts more) (omega (arith, length-slice_split feed more))

lines_alone : (front : List ℕ) → lines (front ++ 10 ∷ []) ≡ map strip_carriage_return (parts front)
lines_alone front = lines_behind front [] ∙ append-nil (map strip_carriage_return (parts front))

pub lines_more : (front more : List ℕ) → lines ((front ++ 10 ∷ []) ++ more) ≡ lines (front ++ 10 ∷ []) ++ lines more
lines_more front more =
    ap lines (append_assoc front (10 ∷ []) more)
    ∙ lines_behind front more
    ∙ ap (λ xs. xs ++ lines more) (sym (lines_alone front))
