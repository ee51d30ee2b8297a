-- What clap's lexer says of a word, by its sort.
use Rattle.std.proofs.Common.{◌≡◌, ◌∙◌, ℕ, Bool, true, false, List, [], ◌∷◌, Some, None, refl, ap, sym, cond, nat_eq}
use Rattle.std.proofs.Common.{◌++◌, arith}
use Rattle.std.specs.Prelude.{slice_get}
use Rattle.std.specs.Str.{IsUtf8, bytes_eq, chars}
use Rattle.std.proofs.lemmas.Bool.{eqb-true, true≢false}
use Rattle.std.proofs.lemmas.Str.{IsUtf8-past_char, encode_ascii, encodes-chars}
use lib.Utf8.{encode, encodes}
use Rattle.clap.specs.Lexer.{long_of, short_of}
use Rattle.lab_arguments.specs.Grammar.{Sort, Text, after_dash, after_two_dashes, sort_of, end_of_options, option}
use Rattle.lab_arguments.specs.Grammar.{stray}
use Rattle.lab_arguments.specs.Grammar.{plain}

abbrev pub dashes : Text
dashes = 45 ∷ 45 ∷ []

abbrev pub SortFacts : Text → Sort → Type 0
SortFacts word end_of_options = bytes_eq word dashes ≡ true
SortFacts word (option name text) = (bytes_eq word dashes ≡ false) × (long_of word ≡ Some (name, text))
SortFacts word stray = (bytes_eq word dashes ≡ false) × (long_of word ≡ None) × (x : ℕ) × (rest : Text)
    × (short_of word ≡ Some (x ∷ rest)) × (word ≡ 45 ∷ x ∷ rest)
SortFacts word plain = (bytes_eq word dashes ≡ false) × (long_of word ≡ None) × (short_of word ≡ None)

by_third : (a b : ℕ) (rest : Text) → nat_eq a 45 ≡ true → nat_eq b 45 ≡ true
    → SortFacts (a ∷ b ∷ rest) (after_two_dashes rest)
by_third a b [] e d = rw (e, d) refl
by_third a b (c ∷ rest) e d = (rw (e, d) refl, rw (e, d) refl)

by_second : (a b : ℕ) (rest : Text) (t : Bool) → nat_eq a 45 ≡ true → nat_eq b 45 ≡ t
    → SortFacts (a ∷ b ∷ rest) (cond t (after_two_dashes rest) stray)
by_second a b rest true e d = by_third a b rest e d
by_second a b rest false e d =
    (rw (e, d) refl, rw (e, d) refl, b, rest, rw (e, d) refl, ap (λ (x : ℕ). x ∷ b ∷ rest) (eqb-true a 45 e))

by_first : (a : ℕ) (rest : Text) (t : Bool) → nat_eq a 45 ≡ t → SortFacts (a ∷ rest) (cond t (after_dash rest) plain)
by_first a rest false e = (rw e refl, rw e refl, rw e refl)
by_first a [] true e = (rw e refl, rw e refl, rw e refl)
by_first a (b ∷ rest) true e = by_second a b rest (nat_eq b 45) e refl

pub sort_facts : (word : Text) → SortFacts word (sort_of word)
sort_facts [] = (refl, refl, refl)
sort_facts (a ∷ rest) = by_first a rest (nat_eq a 45) refl

is_nil : {X : Type 0} → List X → Bool
is_nil [] = true
is_nil (x ∷ xs) = false

pub nil≢cons : {X : Type 0} (x : X) (xs : List X) → [] ≡ x ∷ xs → ⊥
unfolding is_nil
nil≢cons x xs e = true≢false (ap is_nil e)

-- a text that begins with `-` and is longer has a character after it
pub char_behind : (x : ℕ) (rest : Text) → IsUtf8 (45 ∷ x ∷ rest) → (y : ℕ) × (Some y ≡ slice_get (chars (x ∷ rest)) 0)
char_behind x rest u = go (chars (x ∷ rest)) refl
  where
    begins : 45 ∷ x ∷ rest ≡ encode 45 ++ x ∷ rest
    begins = sym (ap (λ e. e ++ x ∷ rest) (encode_ascii 45 (omega arith)))

    back : encodes (chars (x ∷ rest)) ≡ x ∷ rest
    back = encodes-chars (x ∷ rest) (IsUtf8-past_char (45 ∷ x ∷ rest) (x ∷ rest) 45 u begins)

    go : (cs : List ℕ) → chars (x ∷ rest) ≡ cs → (y : ℕ) × (Some y ≡ slice_get (chars (x ∷ rest)) 0)
    go [] none = absurd (nil≢cons x rest (sym (ap encodes none) ∙ back))
    go (y ∷ ys) is = (y, rw is refl)
