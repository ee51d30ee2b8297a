-- How a line is put together says what its words are.
use Rattle.std.proofs.Common.{◌≡◌, ℕ, ◌<◌, ◌++◌, ◌&&◌, ◌∙◌, not, Bool, true, false, cond, List, [], ◌∷◌, length, filter}
use Rattle.std.proofs.Common.{refl, sym, ap, ne_eqb, append-nil, arith}
use Rattle.std.specs.List.{list_all, onto_first}
use Rattle.std.proofs.lemmas.Bool.{and_parts}
use Rattle.resc_read.specs.Words.{is_blank, is_some_text, quoted_after, pieces, gaps, words}
use Rattle.resc_read.specs.Laws.{quoted_behind, IsWord, IsLine}
use Rattle.resc_read.proofs.PieceLemmas.{onto_front}

blank_first : (b : ℕ) (bs : List ℕ) → is_blank b ≡ true → words (b ∷ bs) ≡ words bs
blank_first b bs blank = rw blank refl

blanks_first : (gap rest : List ℕ) → list_all is_blank gap ≡ true → words (gap ++ rest) ≡ words rest
blanks_first [] rest all = refl
blanks_first (b ∷ gap) rest all =
    let both = and_parts (is_blank b) (list_all is_blank gap) all in
    blank_first b (gap ++ rest) both.0 ∙ blanks_first gap rest both.1

no_gap_parts : (t : Bool) (b : ℕ) (xs ys : List ℕ) → cond t (b ∷ xs) ys ≡ [] → (t ≡ false) × (ys ≡ [])
no_gap_parts true b xs ys none = cc
no_gap_parts false b xs ys none = (refl, none)

front_first :
    (b : ℕ) (word : List ℕ) (parts : List (List ℕ)) →
    onto_first b (onto_front word parts) ≡ onto_front (b ∷ word) parts
front_first b word [] = refl
front_first b word (part ∷ parts) = refl

one_more_front : (b : ℕ) (parts : List (List ℕ)) → onto_first b parts ≡ onto_front (b ∷ []) parts
one_more_front b [] = refl
one_more_front b (part ∷ parts) = refl

word_front :
    (quoted : Bool) (b : ℕ) (word rest : List ℕ) → gaps quoted (b ∷ word) ≡ [] →
    pieces quoted ((b ∷ word) ++ rest) ≡ onto_front (b ∷ word) (pieces (quoted_behind quoted (b ∷ word)) rest)
word_front quoted b [] rest no_gap =
    let inside = (no_gap_parts (not quoted && is_blank b) b _ _ no_gap).0 in
    rw inside (one_more_front b (pieces (quoted_after quoted b) rest))
word_front quoted b (c ∷ word) rest no_gap =
    let inside = no_gap_parts (not quoted && is_blank b) b _ _ no_gap in
    rw (inside.0, word_front (quoted_after quoted b) c word rest inside.1)
    (front_first b (c ∷ word) (pieces (quoted_behind (quoted_after quoted b) (c ∷ word)) rest))

pub kept :
    (word : List ℕ) (others : List (List ℕ)) → 0 < length word →
    filter is_some_text (word ∷ others) ≡ word ∷ filter is_some_text others
kept [] others some = absurd (omega arith)
kept (b ∷ word) others some = rw (ne_eqb (length (b ∷ word)) 0 (omega arith)) refl

word_first : (word rest : List ℕ) → IsWord word rest → words (word ++ rest) ≡ word ∷ words rest
word_first [] rest is = absurd (omega (arith, is.some))
word_first (b ∷ word) [] is =
    let here : pieces false ((b ∷ word) ++ []) ≡ ((b ∷ word) ++ []) ∷ [] = word_front false b word [] is.no_gap in
    ap (filter is_some_text) (here ∙ ap (λ x. x ∷ []) (append-nil (b ∷ word))) ∙ kept (b ∷ word) [] is.some
word_first (b ∷ word) (c ∷ rest) is =
    let gap : pieces false (c ∷ rest) ≡ [] ∷ pieces false rest = rw is.ends.0 refl in
    let here : pieces false ((b ∷ word) ++ c ∷ rest) ≡ (b ∷ word) ∷ pieces false rest =
    word_front false b word (c ∷ rest) is.no_gap
    ∙ (ap (λ quoted. onto_front (b ∷ word) (pieces quoted (c ∷ rest))) is.ends.1
    ∙ (ap (onto_front (b ∷ word)) gap ∙ ap (λ x. x ∷ pieces false rest) (append-nil (b ∷ word)))) in
    ap (filter is_some_text) here
    ∙ (kept (b ∷ word) (pieces false rest) is.some
    ∙ ap (λ xs. (b ∷ word) ∷ xs) (sym (blank_first c rest is.ends.0)))

pub line_words : (line : List ℕ) (all : List (List ℕ)) → IsLine line all → words line ≡ all
line_words line [] is = ap words (sym (append-nil line)) ∙ blanks_first line [] is
line_words line (word ∷ others) is =
    ap words is.2
    ∙ (blanks_first is.0 (word ++ is.1) is.3
    ∙ (word_first word is.1 is.4 ∙ ap (λ xs. word ∷ xs) (line_words is.1 others is.5)))
