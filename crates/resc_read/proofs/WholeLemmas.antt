-- Each line is put together of its words.
use Rattle.std.proofs.Common.{◌≡◌, ℕ, zero, suc, ◌+◌, ◌<◌, ◌++◌, ◌&&◌, ◌⊎◌, inl, inr, ◌∙◌, not, Bool, true, false, List}
use Rattle.std.proofs.Common.{[], ◌∷◌, length, filter, refl, sym, ap, append-nil, length-append, arith}
use Rattle.std.proofs.lemmas.Bool.{and_parts, not-true}
use Rattle.resc_read.specs.Words.{is_blank, is_some_text, quoted_after, pieces, gaps, words}
use Rattle.resc_read.specs.Laws.{quoted_behind, IsWord, IsLine}
use Rattle.resc_read.proofs.LineLemmas.{kept}

-- the first piece is the whole line, or a blank outside quotes ends it
abbrev Cuts : Bool → List ℕ → List ℕ → List (List ℕ) → Type 0
Cuts quoted line piece others =
    ((line ≡ piece) × (others ≡ []))
    ⊎ ((b : ℕ) × (rest : List ℕ) × (line ≡ piece ++ b ∷ rest) × (is_blank b ≡ true)
    × (quoted_behind quoted piece ≡ false) × (others ≡ pieces false rest))

abbrev HasFirst : Bool → List ℕ → Type 0
HasFirst quoted line =
    (piece : List ℕ) × (others : List (List ℕ)) × (pieces quoted line ≡ piece ∷ others) × (gaps quoted piece ≡ [])
    × Cuts quoted line piece others

cut_more :
    (quoted : Bool) (b : ℕ) (line piece : List ℕ) (others : List (List ℕ)) →
    Cuts (quoted_after quoted b) line piece others → Cuts quoted (b ∷ line) (b ∷ piece) others
cut_more quoted b line piece others (inl whole) = inl (ap (λ x. b ∷ x) whole.0, whole.1)
cut_more quoted b line piece others (inr cut) =
    inr (cut.0, cut.1, ap (λ x. b ∷ x) cut.2, cut.3, cut.4, cut.5)

first_more :
    (quoted : Bool) (b : ℕ) (line : List ℕ) (gap : Bool) → (not quoted && is_blank b) ≡ gap →
    HasFirst (quoted_after quoted b) line → HasFirst quoted (b ∷ line)
first_more quoted b line true is first =
    let both = and_parts (not quoted) (is_blank b) is in
    ([], pieces false line, rw is refl, refl, inr (b, line, refl, both.1, not-true quoted both.0, refl))
first_more quoted b line false is first =
    (b ∷ first.0, first.1, rw (is, first.2) refl, rw is first.3, cut_more quoted b line first.0 first.1 first.4)

has_first : (quoted : Bool) (line : List ℕ) → HasFirst quoted line
has_first quoted [] = ([], [], refl, refl, inl (refl, refl))
has_first quoted (b ∷ line) =
    first_more quoted b line (not quoted && is_blank b) refl (has_first (quoted_after quoted b) line)

shorter_rest : (piece : List ℕ) (b : ℕ) (rest : List ℕ) → length rest < length (piece ++ b ∷ rest)
shorter_rest piece b rest = rw length-append (omega arith)

-- a blank more before a line
blank_more :
    (b : ℕ) (line : List ℕ) (all : List (List ℕ)) → is_blank b ≡ true → IsLine line all → IsLine (b ∷ line) all
blank_more b line [] blank is = rw blank is
blank_more b line (word ∷ others) blank is =
    (b ∷ is.0, is.1, ap (λ x. b ∷ x) is.2, rw blank is.3, is.4, is.5)

-- the words of a line by its first piece
by_first :
    (line piece : List ℕ) (others : List (List ℕ)) → gaps false piece ≡ [] → Cuts false line piece others →
    ((rest : List ℕ) → length rest < length line → IsLine rest (words rest)) →
    IsLine line (filter is_some_text (piece ∷ others))
by_first line [] others no_gap (inl whole) shorter = rw (whole.0, whole.1) refl
by_first line [] others no_gap (inr cut) shorter =
    let less : length cut.1 < length line = rw cut.2 (shorter_rest [] cut.0 cut.1) in
    rw (cut.2, cut.5) (blank_more cut.0 cut.1 (words cut.1) cut.3 (shorter cut.1 less))
by_first line (c ∷ piece) others no_gap (inl whole) shorter =
    let word : IsWord (c ∷ piece) [] = record { some = omega arith; no_gap = no_gap; ends = tt } in
    let all : IsLine line ((c ∷ piece) ∷ []) =
    ([], [], whole.0 ∙ sym (append-nil (c ∷ piece)), refl, word, refl) in
    rw (whole.1, kept (c ∷ piece) [] (omega arith)) all
by_first line (c ∷ piece) others no_gap (inr cut) shorter =
    let less : length cut.1 < length line = rw cut.2 (shorter_rest (c ∷ piece) cut.0 cut.1) in
    let word : IsWord (c ∷ piece) (cut.0 ∷ cut.1) =
    record { some = omega arith; no_gap = no_gap; ends = (cut.3, cut.4) } in
    let all : IsLine line ((c ∷ piece) ∷ words cut.1) =
    ([], cut.0 ∷ cut.1, cut.2, refl, word, blank_more cut.0 cut.1 (words cut.1) cut.3 (shorter cut.1 less)) in
    rw (cut.5, kept (c ∷ piece) (pieces false cut.1) (omega arith)) all

up_to : (n : ℕ) (line : List ℕ) → length line < n → IsLine line (words line)
up_to zero line below = absurd (omega (arith, below))
up_to (suc n) line below =
    let first = has_first false line in
    let all : IsLine line (filter is_some_text (first.0 ∷ first.1)) =
    by_first line first.0 first.1 first.3 first.4 (λ rest less. up_to n rest (omega (arith, less, below))) in
    rw first.2 all

pub put_together : (line : List ℕ) → IsLine line (words line)
put_together line = up_to (length line + 1) line (omega arith)
