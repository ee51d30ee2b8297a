-- A text with a carriage return before each line feed.
use Rattle.std.proofs.Common.{◌≡◌, ℕ, ◌-◌, ◌<◌, ◌==◌, ◌∙◌, inl, inr, Bool, true, false, cond, refl, sym, ap, List, []}
use Rattle.std.proofs.Common.{◌∷◌, ◌++◌, length, get_or, arith}
use Rattle.std.specs.List.{list_all, slice_split, onto_first}
use Rattle.std.specs.Str.Lines.{lines, lines_of_parts, strip_carriage_return}
use Rattle.std.proofs.lemmas.Bool.{and_parts}
use Rattle.std.proofs.lemmas.Bool.Decides.{eqb_tells}
use Rattle.std.proofs.lemmas.List.{length-append}
use Rattle.std.proofs.Math.Seq.{get_or-append_seam, take-append_seam}
use Rattle.std.proofs.lemmas.List.Folds.{list_all_at}
use Rattle.std.proofs.lemmas.List.Splits.{length-slice_split}
use Rattle.lab_num.specs.Returns.{is_no_return, with_returns}

-- each part but the last, with a carriage return after it
abbrev returned : List (List ℕ) → List (List ℕ)
returned [] = []
returned (x ∷ []) = x ∷ []
returned (x ∷ y ∷ more) = (x ++ 13 ∷ []) ∷ returned (y ∷ more)

returned_more :
    (x : List ℕ) (parts : List (List ℕ)) → 0 < length parts → returned (x ∷ parts) ≡ (x ++ 13 ∷ []) ∷ returned parts
returned_more x [] some = absurd (omega arith)
returned_more x (y ∷ more) some = refl

returned_onto : (b : ℕ) (parts : List (List ℕ)) → onto_first b (returned parts) ≡ returned (onto_first b parts)
returned_onto b [] = refl
returned_onto b (x ∷ []) = refl
returned_onto b (x ∷ y ∷ more) = refl

abbrev is_feed : ℕ → Bool
is_feed b = b == 10

split_returns : (text : List ℕ) → slice_split is_feed (with_returns text) ≡ returned (slice_split is_feed text)
split_returns [] = refl
split_returns (b ∷ bs) =
    elim (eqb_tells b 10) [
      | inl feed ↦
          let some : 0 < length (slice_split is_feed bs) = omega (arith, length-slice_split is_feed bs) in
          rw (feed.0, split_returns bs) (sym (returned_more [] (slice_split is_feed bs) some))
      | inr other ↦ rw (other.0, other.0, split_returns bs) (returned_onto b (slice_split is_feed bs))
    ]

abbrev no_returns : List ℕ → Bool
no_returns x = list_all is_no_return x

split_no_returns : (text : List ℕ) → no_returns text ≡ true → list_all no_returns (slice_split is_feed text) ≡ true
split_no_returns [] all = refl
split_no_returns (b ∷ bs) all =
    let both = and_parts (is_no_return b) (no_returns bs) all in
    by_feed (is_feed b) (slice_split is_feed bs) both.0 (split_no_returns bs both.1)
  where
    onto :
        (parts : List (List ℕ)) → is_no_return b ≡ true → list_all no_returns parts ≡ true →
        list_all no_returns (onto_first b parts) ≡ true
    onto [] here rest = rw here refl
    onto (x ∷ more) here rest = rw here rest

    by_feed :
        (feed : Bool) (parts : List (List ℕ)) → is_no_return b ≡ true → list_all no_returns parts ≡ true →
        list_all no_returns (cond feed ([] ∷ parts) (onto_first b parts)) ≡ true
    by_feed true parts here rest = rest
    by_feed false parts here rest = onto parts here rest

strip_return : (x : List ℕ) → strip_carriage_return (x ++ 13 ∷ []) ≡ x
strip_return x =
    let last : length (x ++ 13 ∷ []) - 1 ≡ length x = omega (arith, length-append x (13 ∷ [])) in
    rw (last, get_or-append_seam x 13 [] 0, take-append_seam x (13 ∷ [])) refl

strip_none : (x : List ℕ) → no_returns x ≡ true → strip_carriage_return x ≡ x
strip_none [] all = refl
strip_none (b ∷ bs) all =
    let inside : length (b ∷ bs) - 1 < length (b ∷ bs) = omega arith in
    elim (eqb_tells (get_or (b ∷ bs) (length (b ∷ bs) - 1) 0) 13) [
      | inl return_ ↦
          let stops : is_no_return (get_or (b ∷ bs) (length (b ∷ bs) - 1) 0) ≡ false = rw return_.0 refl in
          let none : no_returns (b ∷ bs) ≡ false =
          list_all_at is_no_return (b ∷ bs) (length (b ∷ bs) - 1) 0 inside stops in
          cc
      | inr other ↦ rw other.0 refl
    ]

lines_returned :
    (parts : List (List ℕ)) → list_all no_returns parts ≡ true →
    lines_of_parts (returned parts) ≡ lines_of_parts parts
lines_returned [] all = refl
lines_returned (x ∷ []) all = refl
lines_returned (x ∷ y ∷ []) all =
    let both = and_parts (no_returns x) (list_all no_returns (y ∷ [])) all in
    rw (strip_return x, strip_none x both.0) refl
lines_returned (x ∷ y ∷ z ∷ more) all =
    let both = and_parts (no_returns x) (list_all no_returns (y ∷ z ∷ more)) all in
    rw (strip_return x, strip_none x both.0) (ap (λ rest. x ∷ rest) (lines_returned (y ∷ z ∷ more) both.1))

pub lines_returns : (text : List ℕ) → no_returns text ≡ true → lines (with_returns text) ≡ lines text
lines_returns text all =
    ap lines_of_parts (split_returns text) ∙ lines_returned (slice_split is_feed text) (split_no_returns text all)
