-- Comments and strings of one line, whole.
use Rattle.std.proofs.Common.{◌≡◌, ℕ, ◌+◌, ◌==◌, ◌&&◌, ◌||◌, ◌∙◌, Bool, true, false, zero, suc, refl, ap, List, [], ◌∷◌}
use Rattle.std.proofs.Common.{◌++◌, length, get_or, arith}
use Rattle.std.specs.List.{list_all}
use Rattle.std.proofs.lemmas.Bool.{and_parts, or_parts}
use Rattle.std.proofs.lemmas.Bool.Decides.{nat_tests}
use Rattle.repl_read.specs.declared.comments.Inside.TheVariants.{Nothing, Words, Line, Block}
use Rattle.repl_read.specs.Comments.{closes, blanked}
use Rattle.repl_read.specs.Laws.{stays_on_line, stays_in_string, blanks}
use Rattle.repl_read.proofs.BlankLemmas.{dull, words_plain}

no_feed : (b : ℕ) → stays_on_line b ≡ true → (b == 10) ≡ false
no_feed b here = grind (arith, nat_tests)

no_return : (b : ℕ) → stays_on_line b ≡ true → (b == 13) ≡ false
no_return b here = grind (arith, nat_tests)

-- a sign of a comment that goes on
line_one : (b : ℕ) (bs : List ℕ) → stays_on_line b ≡ true → blanked Line (b ∷ bs) ≡ 32 ∷ blanked Line bs
line_one b [] here = rw (no_feed b here, no_return b here) refl
line_one b (next ∷ bs) here = rw (no_feed b here, no_return b here) refl

block_one :
    (b : ℕ) (bs : List ℕ) → stays_on_line b ≡ true → (b == 42 && get_or bs 0 0 == 47) ≡ false →
    blanked Block (b ∷ bs) ≡ 32 ∷ blanked Block bs
block_one b [] here open_ = rw (no_feed b here, no_return b here) refl
block_one b (next ∷ bs) here open_ = rw (open_, no_feed b here, no_return b here) refl

line_words :
    (words rest : List ℕ) → list_all stays_on_line words ≡ true →
    blanked Line (words ++ 10 ∷ rest) ≡ blanks (length words) ++ 10 ∷ blanked Nothing rest
line_words [] [] all = refl
line_words [] (next ∷ rest) all = refl
line_words (b ∷ words) rest all =
    let both = and_parts (stays_on_line b) (list_all stays_on_line words) all in
    line_one b (words ++ 10 ∷ rest) both.0 ∙ ap (λ xs. 32 ∷ xs) (line_words words rest both.1)

pub line_law :
    (words rest : List ℕ) → list_all stays_on_line words ≡ true →
    blanked Nothing (47 ∷ 47 ∷ (words ++ 10 ∷ rest)) ≡ blanks (length words + 2) ++ 10 ∷ blanked Nothing rest
line_law words rest all =
    let two : length words + 2 ≡ suc (suc (length words)) = omega arith in
    rw two (ap (λ xs. 32 ∷ 32 ∷ xs) (line_words words rest all))

-- what stands first in a comment's words, or after them
next_open :
    (b : ℕ) (words rest : List ℕ) → (b == 42 && get_or words 0 0 == 47) ≡ false →
    (b == 42 && get_or (words ++ 42 ∷ 47 ∷ rest) 0 0 == 47) ≡ false
next_open b [] rest open_ = either (b == 42)
  where
    either : (c : Bool) → (c && false) ≡ false
    either true = refl
    either false = refl
next_open b (c ∷ words) rest open_ = open_

block_words :
    (words rest : List ℕ) → list_all stays_on_line words ≡ true → closes words ≡ false →
    blanked Block (words ++ 42 ∷ 47 ∷ rest) ≡ blanks (length words) ++ 32 ∷ 32 ∷ blanked Nothing rest
block_words [] rest all open_ = refl
block_words (b ∷ words) rest all open_ =
    let both = and_parts (stays_on_line b) (list_all stays_on_line words) all in
    let opens = or_parts (b == 42 && get_or words 0 0 == 47) (closes words) open_ in
    block_one b (words ++ 42 ∷ 47 ∷ rest) both.0 (next_open b words rest opens.0)
    ∙ ap (λ xs. 32 ∷ xs) (block_words words rest both.1 opens.1)

or_true : (x : Bool) → (x || true) ≡ true
or_true true = refl
or_true false = refl

closed : (words rest : List ℕ) → closes (words ++ 42 ∷ 47 ∷ rest) ≡ true
closed [] rest = refl
closed (b ∷ words) rest = rw (closed words rest) (or_true (b == 42 && get_or (words ++ 42 ∷ 47 ∷ rest) 0 0 == 47))

blanks-more : (n : ℕ) (rest : List ℕ) → blanks n ++ 32 ∷ 32 ∷ rest ≡ blanks (n + 2) ++ rest
blanks-more zero rest = refl
blanks-more (suc n) rest =
    let more : suc n + 2 ≡ suc (n + 2) = omega arith in
    rw more (ap (λ xs. 32 ∷ xs) (blanks-more n rest))

pub block_law :
    (words rest : List ℕ) → list_all stays_on_line words ≡ true → closes words ≡ false →
    blanked Nothing (47 ∷ 42 ∷ (words ++ 42 ∷ 47 ∷ rest)) ≡ blanks (length words + 4) ++ blanked Nothing rest
block_law words rest all open_ =
    let four : length words + 4 ≡ suc (suc (length words + 2)) = omega arith in
    rw (four, closed words rest)
    (ap (λ xs. 32 ∷ 32 ∷ xs) (block_words words rest all open_ ∙ blanks-more (length words) (blanked Nothing rest)))

string_words :
    (words rest : List ℕ) → list_all stays_in_string words ≡ true →
    blanked Words (words ++ 34 ∷ rest) ≡ words ++ 34 ∷ blanked Nothing rest
string_words [] rest all = words_plain 34 rest
string_words (b ∷ words) rest all =
    let both = and_parts (stays_in_string b) (list_all stays_in_string words) all in
    let goes_on : (b == 34 || b == 10) ≡ false = grind (arith, nat_tests) in
    words_plain b (words ++ 34 ∷ rest) ∙ rw goes_on (ap (λ xs. b ∷ xs) (string_words words rest both.1))

pub string_law :
    (words rest : List ℕ) → list_all stays_in_string words ≡ true →
    blanked Nothing (34 ∷ (words ++ 34 ∷ rest)) ≡ 34 ∷ (words ++ 34 ∷ blanked Nothing rest)
string_law words rest all = first (words ++ 34 ∷ rest) ∙ ap (λ xs. 34 ∷ xs) (string_words words rest all)
  where
    first : (bs : List ℕ) → blanked Nothing (34 ∷ bs) ≡ 34 ∷ blanked Words bs
    first [] = refl
    first (next ∷ bs) = refl

pub other_law :
    (b : ℕ) (rest : List ℕ) → (b == 34) ≡ false → (b == 47) ≡ false →
    blanked Nothing (b ∷ rest) ≡ b ∷ blanked Nothing rest
other_law b rest string slash = dull b rest slash string
