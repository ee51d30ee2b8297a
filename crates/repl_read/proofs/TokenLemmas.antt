-- The tokens of a line, one at a time.
use Rattle.std.proofs.Common.{◌≡◌, ℕ, ◌+◌, ◌<◌, ◌≤◌, ◌==◌, true, false, ◌∙◌, refl, sym, ap, rules, subst, add-zero}
use Rattle.std.proofs.Common.{add-one, zero, suc, List, [], ◌∷◌, ◌++◌, length, get_or, take, drop, None, Some, arith}
use Rattle.std.proofs.Common.{◌≢◌, append_assoc}
use Rattle.std.specs.List.{list_all}
use Rattle.std.specs.Str.{byte, IsUtf8, IsCharBoundary}
use Rattle.std.proofs.lemmas.Bool.{and_parts}
use Rattle.std.proofs.lemmas.Bool.Decides.{nat_tests}
use Rattle.std.proofs.lemmas.List.{take-append-drop, get_or-drop, drop_more, drop_all, take_all, drop-drop, length-drop}
use Rattle.std.proofs.lemmas.List.Folds.{list_all_more}
use Rattle.std.proofs.lemmas.Str.{IsCharBoundary-before_ascii, IsCharBoundary-after_ascii}
use Rattle.repl_read.specs.Comments.{quote}
use Rattle.repl_read.specs.Tokens.{is_blank, is_word_byte, glue, dash, tokens_of}
use Rattle.repl_read.specs.Inner.Steps.{is_no_quote, IsStep}
use Rattle.repl_read.specs.declared.tokens.TokenStep.{TokenStep}
use Rattle.repl_read.specs.declared.tokens.Token.{Token}
use Rattle.repl_read.specs.declared.tokens.Token.TheVariants.{Word, Quoted, Minus, Arrow, Other}

-- what a byte of a word is not
word_no_blank : (b : ℕ) → is_word_byte b ≡ true → is_blank b ≡ false
word_no_blank b word = grind (arith, nat_tests)

word_no_quote : (b : ℕ) → is_word_byte b ≡ true → (b == quote) ≡ false
word_no_quote b word = grind (arith, nat_tests)

word_byte :
    (b : ℕ) (bs : List ℕ) → is_word_byte b ≡ true →
    tokens_of false (b ∷ bs) ≡ glue b (is_word_byte (get_or bs 0 0)) (tokens_of false bs)
word_byte b bs word = rw (word_no_blank b word, word_no_quote b word, word) refl

begun : (b : ℕ) (ts : List Token) → glue b false ts ≡ Word (b ∷ []) ∷ ts
begun b [] = refl
begun b (t ∷ ts) = search rules

-- a word and what stands after it
pub word_tokens :
    (b : ℕ) (word rest : List ℕ) → list_all is_word_byte (b ∷ word) ≡ true → is_word_byte (get_or rest 0 0) ≡ false →
    tokens_of false ((b ∷ word) ++ rest) ≡ Word (b ∷ word) ∷ tokens_of false rest
word_tokens b [] rest all ends =
    word_byte b rest (and_parts (is_word_byte b) true all).0 ∙ rw ends (begun b (tokens_of false rest))
word_tokens b (c ∷ word) rest all ends =
    let both = and_parts (is_word_byte b) (list_all is_word_byte (c ∷ word)) all in
    let next = (and_parts (is_word_byte c) (list_all is_word_byte word) both.1).0 in
    word_byte b ((c ∷ word) ++ rest) both.0
    ∙ (ap (λ joined. glue b joined (tokens_of false ((c ∷ word) ++ rest))) next
    ∙ ap (glue b true) (word_tokens c word rest both.1 ends))

-- a string and what stands after it
pub string_tokens :
    (text rest : List ℕ) → list_all is_no_quote text ≡ true →
    tokens_of true (text ++ quote ∷ rest) ≡ Quoted text ∷ tokens_of false rest
string_tokens [] rest all = refl
string_tokens (b ∷ text) rest all =
    let both = and_parts (is_no_quote b) (list_all is_no_quote text) all in
    let other : (b == quote) ≡ false = grind (arith, nat_tests) in
    rw (other, string_tokens text rest both.1) refl

pub unclosed_tokens : (text : List ℕ) → list_all is_no_quote text ≡ true → tokens_of true text ≡ Other ∷ []
unclosed_tokens [] all = refl
unclosed_tokens (b ∷ text) all =
    let both = and_parts (is_no_quote b) (list_all is_no_quote text) all in
    let other : (b == quote) ≡ false = grind (arith, nat_tests) in
    rw (other, unclosed_tokens text both.1) refl

-- a word in front of a text, by its length
pub word_cut :
    (ds : List ℕ) (n : ℕ) → is_word_byte (get_or ds 0 0) ≡ true → n ≤ length ds →
    list_all is_word_byte (take n ds) ≡ true → is_word_byte (get_or ds n 0) ≡ false →
    (0 < n) × (tokens_of false ds ≡ Word (take n ds) ∷ tokens_of false (drop n ds))
word_cut ds zero first fits all ends = cc
word_cut [] (suc m) first fits all ends = absurd (omega arith)
word_cut (b ∷ bs) (suc m) first fits all ends =
    let rest : is_word_byte (get_or (drop m bs) 0 0) ≡ false = rw (get_or-drop m bs 0 0, add-zero m) ends in
    (omega arith, rw (take-append-drop m bs) at (word_tokens b (take m bs) (drop m bs) all rest))

-- a string that is closed, by its length
pub string_cut :
    (es : List ℕ) (n : ℕ) → n < length es → list_all is_no_quote (take n es) ≡ true → get_or es n 0 ≡ quote →
    tokens_of true es ≡ Quoted (take n es) ∷ tokens_of false (drop (n + 1) es)
string_cut es n inside all ends =
    let whole : take n es ++ quote ∷ drop (n + 1) es ≡ es =
    rw (← ends, ← drop_more es n 0 inside) (take-append-drop n es) in
    rw whole at (string_tokens (take n es) (drop (n + 1) es) all)

word_ascii : (b : ℕ) → is_word_byte b ≡ true → b < 128
word_ascii b word = grind (arith, nat_tests)

-- a line may be cut after a word
pub word_end :
    (line : List ℕ) (start n : ℕ) → IsUtf8 line → start < length line → is_word_byte (get_or line start 0) ≡ true →
    n ≤ length (drop start line) → list_all is_word_byte (take n (drop start line)) ≡ true →
    IsCharBoundary line (start + n)
word_end line start zero text inside first fits all =
    rw (add-zero start) (IsCharBoundary-before_ascii line start inside (word_ascii _ first))
word_end line start (suc m) text inside first fits all =
    let more : m < length (drop start line) = omega arith in
    let all_more : list_all is_word_byte (take (m + 1) (drop start line)) ≡ true = rw (add-one m) all in
    let last : is_word_byte (get_or (drop start line) m 0) ≡ true =
    (and_parts (list_all is_word_byte (take m (drop start line))) (is_word_byte (get_or (drop start line) m 0))
    (sym (list_all_more is_word_byte (drop start line) m 0 more) ∙ all_more)).1 in
    let there : is_word_byte (get_or line (start + m) 0) ≡ true = rw (get_or-drop start line m 0) at last in
    let below : start + m < length line = omega (arith, length-drop start line) in
    let place : start + m + 1 ≡ start + suc m = omega arith in
    subst (IsCharBoundary line) place (IsCharBoundary-after_ascii line (start + m) text below (word_ascii _ there))

-- the steps of the reader
pub word_step :
    (line word : List ℕ) (start n : ℕ) → start < length line → is_word_byte (get_or line start 0) ≡ true →
    n ≤ length (drop start line) → list_all is_word_byte (take n (drop start line)) ≡ true →
    is_word_byte (get_or (drop start line) n 0) ≡ false → word ≡ take n (drop start line) →
    IsStep line start (record { token = Some (Word word); end = start + n })
word_step line word start n inside first fits all ends is =
    let here : is_word_byte (get_or (drop start line) 0 0) ≡ true =
    rw (get_or-drop start line 0 0, add-zero start) first in
    let cut = word_cut (drop start line) n here fits all ends in
    record {
      token = rw (is, ← drop-drop n start line) cut.1;
      further = omega (arith, cut.0);
      within = omega (arith, length-drop start line);
    }

-- a line from its quote on
from_quote :
    (line : List ℕ) (start : ℕ) → start < length line → get_or line start 0 ≡ quote →
    tokens_of false (drop start line) ≡ tokens_of true (drop (start + 1) line)
from_quote line start inside string = rw (drop_more line start 0 inside, string) refl

pub unclosed_step :
    (line : List ℕ) (start n : ℕ) → start < length line → get_or line start 0 ≡ quote →
    list_all is_no_quote (take n (drop (start + 1) line)) ≡ true → start + 1 + n ≡ length line →
    IsStep line start (record { token = Some Other; end = start + 1 + n })
unclosed_step line start n inside string all whole =
    let few : length (drop (start + 1) line) ≤ n = omega (arith, length-drop (start + 1) line) in
    let none = unclosed_tokens (drop (start + 1) line) (rw (take_all n (drop (start + 1) line) few) at all) in
    record {
      token =
          from_quote line start inside string
          ∙ (none ∙ rw (drop_all (start + 1 + n) line (omega arith)) refl);
      further = omega arith;
      within = omega arith;
    }

pub string_step :
    (line words : List ℕ) (start n : ℕ) → start < length line → get_or line start 0 ≡ quote →
    n < length (drop (start + 1) line) → list_all is_no_quote (take n (drop (start + 1) line)) ≡ true →
    get_or (drop (start + 1) line) n 0 ≡ quote → words ≡ take n (drop (start + 1) line) →
    IsStep line start (record { token = Some (Quoted words); end = start + 1 + n + 1 })
string_step line words start n inside string fits all ends is =
    let cut = string_cut (drop (start + 1) line) n fits all ends in
    let place : start + 1 + (n + 1) ≡ start + 1 + n + 1 = omega arith in
    let behind : drop (n + 1) (drop (start + 1) line) ≡ drop (start + 1 + n + 1) line =
    rw (← place) (drop-drop (n + 1) (start + 1) line) in
    record {
      token = rw (is, ← behind) (from_quote line start inside string ∙ cut);
      further = omega arith;
      within = omega (arith, length-drop (start + 1) line);
    }

lone_dash : (ts : List Token) → dash false ts ≡ Minus ∷ ts
lone_dash [] = refl
lone_dash (t ∷ ts) = search rules

-- a dash, and what stands after it
from_dash :
    (line : List ℕ) (start : ℕ) → start < length line → get_or line start 0 ≡ byte "-" →
    tokens_of false (drop start line)
    ≡ dash (get_or (drop (start + 1) line) 0 0 == byte ">") (tokens_of false (drop (start + 1) line))
from_dash line start inside is = rw (drop_more line start 0 inside, is) refl

pub dash_step :
    (line : List ℕ) (start : ℕ) → start < length line → get_or line start 0 ≡ byte "-" →
    get_or (drop (start + 1) line) 0 0 ≢ byte ">" →
    IsStep line start (record { token = Some Minus; end = start + 1 })
dash_step line start inside is other =
    let lone : (get_or (drop (start + 1) line) 0 0 == byte ">") ≡ false = grind (arith, nat_tests) in
    record {
      token =
          from_dash line start inside is
          ∙ rw lone (lone_dash (tokens_of false (drop (start + 1) line)));
      further = omega arith;
      within = omega arith;
    }

arrow_tokens :
    (bs : List ℕ) → get_or bs 0 0 ≡ byte ">" →
    (0 < length bs) × (dash (get_or bs 0 0 == byte ">") (tokens_of false bs) ≡ Arrow ∷ tokens_of false (drop 1 bs))
arrow_tokens [] next = absurd (omega arith)
arrow_tokens (b ∷ bs) next = (omega arith, rw next refl)

pub arrow_step :
    (line : List ℕ) (start : ℕ) → start < length line → get_or line start 0 ≡ byte "-" →
    get_or (drop (start + 1) line) 0 0 ≡ byte ">" →
    IsStep line start (record { token = Some Arrow; end = start + 1 + 1 })
arrow_step line start inside is next =
    let arrow = arrow_tokens (drop (start + 1) line) next in
    record {
      token = from_dash line start inside is ∙ rw (drop-drop 1 (start + 1) line) at arrow.1;
      further = omega arith;
      within = omega (arith, arrow.0, length-drop (start + 1) line);
    }

-- a line may be cut after a quote, and before one
pub quote_end :
    (line : List ℕ) (start : ℕ) → IsUtf8 line → start < length line → get_or line start 0 ≡ quote →
    IsCharBoundary line (start + 1)
quote_end line start text inside string = IsCharBoundary-after_ascii line start text inside (omega arith)

-- a token more, and what stands after it
pub token_more :
    (line : List ℕ) (start : ℕ) (step : TokenStep) (token : Token) (made whole : List Token) → IsStep line start step →
    step.token ≡ Some token → made ++ tokens_of false (drop start line) ≡ whole →
    (made ++ token ∷ []) ++ tokens_of false (drop step.end line) ≡ whole
token_more line start step token made whole here is read =
    append_assoc made (token ∷ []) (tokens_of false (drop step.end line)) ∙ (rw (here.token, is) at read)

pub no_token_more :
    (line : List ℕ) (start : ℕ) (step : TokenStep) (made whole : List Token) → IsStep line start step →
    step.token ≡ None → made ++ tokens_of false (drop start line) ≡ whole →
    made ++ tokens_of false (drop step.end line) ≡ whole
no_token_more line start step made whole here is read = rw (here.token, is) at read
