-- How far a line has been read for its first piece.
use Rattle.std.proofs.Common.{◌≡◌, ℕ, ◌<◌, ◌++◌, Bool, true, false, cond, List, [], ◌∷◌, take, drop, refl, sym, arith}
use Rattle.std.specs.List.{onto_first}
use Rattle.std.proofs.lemmas.Bool.Decides.{nat_tests}
use Rattle.resc_read.specs.Words.{is_blank, quoted_after, pieces, gaps}

-- the pieces with `front` before the first
abbrev pub onto_front : List ℕ → List (List ℕ) → List (List ℕ)
onto_front front [] = front ∷ []
onto_front front (piece ∷ pieces) = (front ++ piece) ∷ pieces

onto_nothing :
    (b : ℕ) (gap : Bool) (xs ys : List (List ℕ)) →
    onto_front [] (cond gap ([] ∷ xs) (onto_first b ys)) ≡ cond gap ([] ∷ xs) (onto_first b ys)
onto_nothing b true xs ys = refl
onto_nothing b false xs [] = refl
onto_nothing b false xs (y ∷ ys) = refl

-- the pieces of a line, once its first i bytes are read and a quote is open after them or not
abbrev pub ReadsPieces : List ℕ → ℕ → Bool → Type 0
ReadsPieces line i quoted = pieces false line ≡ onto_front (take i line) (pieces quoted (drop i line))

pub none_read : (line : List ℕ) → ReadsPieces line 0 false
none_read [] = refl
none_read (b ∷ bs) = sym (onto_nothing b (is_blank b) (pieces false bs) (pieces (quoted_after false b) bs))

-- the blanks of a line, once its first i bytes are read
abbrev pub ReadsGaps : List ℕ → ℕ → Bool → Type 0
ReadsGaps line i quoted = gaps false line ≡ gaps quoted (drop i line)

pub blank_ascii : (b : ℕ) → is_blank b ≡ true → b < 128
blank_ascii b blank = grind (arith, nat_tests)
