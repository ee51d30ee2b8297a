-- What the course over the lines finds is what the lines give by their positions.
use Rattle.std.proofs.Common.{◌≡◌, ℕ, ◌+◌, ◌*◌, ◌<◌, Bool, true, false, not, ◌==◌, refl, sym, ap, ◌∙◌, subst, inl, inr}
use Rattle.std.proofs.Common.{List, [], ◌∷◌, ◌++◌, length, get_or, take, drop, map, Option, Some, None, Result, Ok, Err}
use Rattle.std.proofs.Common.{arith}
use Rattle.std.specs.Prelude.{find, filter, count_by}
use Rattle.std.specs.Option.{option_map}
use Rattle.std.specs.List.{list_any, enumerate_from}
use Rattle.std.specs.Str.{byte, bytes_eq}
use Rattle.std.proofs.Math.Path.{fun_ext}
use Rattle.std.proofs.lemmas.Bool.{cases_Bool, eq-eqb}
use Rattle.std.proofs.lemmas.Bool.Decides.{nat_tests}
use Rattle.std.proofs.lemmas.List.{drop_more, length-drop, take-append-drop}
use Rattle.std.proofs.lemmas.List.Sums.{sum_by-cons, count_by_more_yes, count_by_more_no}
use Rattle.std.proofs.lemmas.Slice.Eq.{bytes_eq-Decides}
use Rattle.std.specs.declared.vec.Vec.{Vec}
use Rattle.std.specs.declared.alloc.Global.{Global}
use Rattle.rv_asm.specs.declared.fault.AsmCause.{AsmCause}
use Rattle.rv_asm.specs.declared.fault.AsmFault.{AsmFault}
use Rattle.rv_asm.specs.declared.fault.AsmFault.TheVariants.{Line, Memory}
use Rattle.rv_asm.specs.Texts.{trimmed, cut, with_cut, code_of}
use Rattle.rv_asm.specs.Places.{is_label}
use Rattle.rv_asm.specs.Lines.{gives_word, label_of, line_word, labelled_word, plain_word}
use Rattle.rv_asm.specs.Program.{lines_of, address_of, gives_label, place_of, is_new, word_at, given, is_fault}
use Rattle.rv_asm.specs.Program.{Assembles}
use Rattle.rv_asm.specs.Inner.Scan.{place_from, is_here, is_first, word_from, at_line, words_from, Gives, ◌>>=◌}

-- ---- one line more

record Next (lines : List (List ℕ)) (i : ℕ) (line : List ℕ) (rest : List (List ℕ)) : Type 0 where
  below : i < length lines
  here : get_or lines i [] ≡ line
  after : drop (i + 1) lines ≡ rest

next :
    (lines : List (List ℕ)) (i : ℕ) (line : List ℕ) (rest : List (List ℕ)) →
    drop i lines ≡ line ∷ rest → Next lines i line rest
next lines i line rest is =
    let below : i < length lines = omega (arith, length-drop i lines, ap length is) in
    let both : get_or lines i [] ∷ drop (i + 1) lines ≡ line ∷ rest = sym (drop_more lines i [] below) ∙ is in
    record { below = below; here = cc; after = cc }

address_more :
    (lines : List (List ℕ)) (i : ℕ) (line : List ℕ) (rest : List (List ℕ)) →
    Next lines i line rest → gives_word line ≡ true → address_of lines (i + 1) ≡ address_of lines i + 4
address_more lines i line rest n gives =
    let yes : gives_word (get_or lines i []) ≡ true = rw n.here gives in
    omega (arith, count_by_more_yes gives_word lines i [] n.below yes)

address_same :
    (lines : List (List ℕ)) (i : ℕ) (line : List ℕ) (rest : List (List ℕ)) →
    Next lines i line rest → gives_word line ≡ false → address_of lines (i + 1) ≡ address_of lines i
address_same lines i line rest n blank =
    let no : gives_word (get_or lines i []) ≡ false = rw n.here blank in
    omega (arith, count_by_more_no gives_word lines i [] n.below no)

-- ---- places

place_from-at :
    (lines : List (List ℕ)) (i address : ℕ) (rest : List (List ℕ)) (name : List ℕ) →
    drop i lines ≡ rest → address ≡ address_of lines i →
    place_from address rest name ≡
    option_map (λ x. address_of lines x.0) (find (λ x. gives_label name x.1) (enumerate_from i rest))
place_from-at lines i address [] name is at = refl
place_from-at lines i address (line ∷ rest) name is at =
    let n = next lines i line rest is in
    elim (cases_Bool (gives_word line)) [
      | inl gives ↦
          elim (cases_Bool (is_label name (label_of line))) [
            | inl labelled ↦ rw (gives, labelled) (ap Some at)
            | inr other ↦
                let more : address + 4 ≡ address_of lines (i + 1) =
                omega (arith, at, address_more lines i line rest n gives) in
                rw (gives, other) (place_from-at lines (i + 1) (address + 4) rest name n.after more)
          ]
      | inr blank ↦
          let same : address ≡ address_of lines (i + 1) = at ∙ sym (address_same lines i line rest n blank) in
          rw blank (place_from-at lines (i + 1) address rest name n.after same)
    ]

place_from-all : (lines : List (List ℕ)) (name : List ℕ) → place_from 0 lines name ≡ place_of lines name
place_from-all lines name = place_from-at lines 0 0 lines name refl refl

-- ---- labels that an earlier line gives

first_or_not :
    (before : List (List ℕ)) (address : ℕ) (line : List ℕ) (rest : List (List ℕ)) (name : List ℕ) →
    gives_word line ≡ true → label_of line ≡ Some name →
    is_here (address + 4 * count_by gives_word before) (place_from address (before ++ line ∷ rest) name) ≡
    not (list_any (gives_label name) before)
first_or_not [] address line rest name gives labelled =
    let same : bytes_eq name name ≡ true = (bytes_eq-Decides name name).1 refl in
    rw (gives, labelled, same) (eq-eqb _ _ (omega arith))
first_or_not (b ∷ bs) address line rest name gives labelled =
    elim (cases_Bool (gives_word b)) [
      | inl word ↦
          let more : address + 4 + 4 * count_by gives_word bs ≡ address + 4 * (1 + count_by gives_word bs) =
          omega arith in
          elim (cases_Bool (is_label name (label_of b))) [
            | inl earlier ↦
                let apart : (address == address + 4 * (1 + count_by gives_word bs)) ≡ false =
                grind (arith, nat_tests) in
                rw (sum_by-cons, word, earlier) apart
            | inr other ↦
                rw (sum_by-cons, word, other, ← more)
                (first_or_not bs (address + 4) line rest name gives labelled)
          ]
      | inr blank ↦
          let same : address + 4 * count_by gives_word bs ≡ address + 4 * (0 + count_by gives_word bs) = omega arith in
          rw (sum_by-cons, blank, ← same) (first_or_not bs address line rest name gives labelled)
    ]

is_first-new :
    (lines : List (List ℕ)) (i : ℕ) (line : List ℕ) (rest : List (List ℕ)) (name : List ℕ) →
    drop i lines ≡ line ∷ rest → gives_word line ≡ true → label_of line ≡ Some name →
    is_first (place_of lines) (address_of lines i) name ≡ is_new lines i name
is_first-new lines i line rest name is gives labelled =
    let whole : take i lines ++ (line ∷ rest) ≡ lines =
    ap (λ v. take i lines ++ v) (sym is) ∙ take-append-drop i lines in
    let P : List (List ℕ) → Type 0 =
    λ v. is_here (0 + 4 * count_by gives_word (take i lines)) (place_from 0 v name) ≡ is_new lines i name in
    let found = subst P whole (first_or_not (take i lines) 0 line rest name gives labelled) in
    let there : 0 + 4 * count_by gives_word (take i lines) ≡ address_of lines i = omega arith in
    rw (← place_from-all lines name, ← there) found

-- ---- words

-- a line asks only whether its own label is new
line_word-new :
    (places : List ℕ → Option ℕ) (here : ℕ) (p q : List ℕ → Bool) (line : List ℕ) →
    ((name : List ℕ) → label_of line ≡ Some name → p name ≡ q name) →
    line_word places here p line ≡ line_word places here q line
unfolding line_word
line_word-new places here p q line same = by_cut (cut (byte ":") (code_of line)) same
  where
    by_cut :
        (parts : Option (List ℕ × List ℕ)) →
        ((name : List ℕ) → option_map (λ x. trimmed x.0) parts ≡ Some name → p name ≡ q name) →
        with_cut parts (plain_word places here (trimmed (code_of line)))
        (λ label statement. labelled_word places here (p (trimmed label)) (trimmed label) (trimmed statement)) ≡
        with_cut parts (plain_word places here (trimmed (code_of line)))
        (λ label statement. labelled_word places here (q (trimmed label)) (trimmed label) (trimmed statement))
    by_cut None same = refl
    by_cut (Some x) same =
        ap (λ new. labelled_word places here new (trimmed x.0) (trimmed x.1)) (same (trimmed x.0) refl)

word_from-at :
    (lines : List (List ℕ)) (places : List ℕ → Option ℕ) (i address : ℕ) (line : List ℕ) (rest : List (List ℕ)) →
    ((name : List ℕ) → places name ≡ place_from 0 lines name) → address ≡ address_of lines i →
    drop i lines ≡ line ∷ rest → gives_word line ≡ true →
    word_from places address line ≡ word_at lines i line
word_from-at lines places i address line rest has at is gives =
    let same : places ≡ place_of lines = fun_ext (λ name. has name ∙ place_from-all lines name) in
    rw (same, at)
    (line_word-new (place_of lines) (address_of lines i) (is_first (place_of lines) (address_of lines i))
    (is_new lines i) line
    (λ name labelled. is_first-new lines i line rest name is gives labelled))

-- the words of what is given, or its first fault
abbrev Tells : Result (List ℕ) AsmFault → List (ℕ × Result ℕ AsmCause) → Type 0
Tells (Ok words) found = map (λ x. x.1) found ≡ map (λ word. Ok word) words
Tells (Err (Line n cause)) found = find (λ x. is_fault x.1) found ≡ Some (n, Err cause)
Tells (Err Memory) found = Unit {0}

Tells-more :
    (n : ℕ) (word : Result ℕ AsmCause) (more : Result (List ℕ) AsmFault) (found : List (ℕ × Result ℕ AsmCause)) →
    Tells more found → Tells (at_line n word >>= λ w. more >>= λ words. Ok (w ∷ words)) ((n, word) ∷ found)
Tells-more n (Err cause) more found tells = refl
Tells-more n (Ok w) (Ok words) found tells = ap (λ v. Ok w ∷ v) tells
Tells-more n (Ok w) (Err (Line m cause)) found tells = tells
Tells-more n (Ok w) (Err Memory) found tells = tt

words_from-given :
    (lines : List (List ℕ)) (places : List ℕ → Option ℕ) (i address : ℕ) (rest : List (List ℕ)) →
    ((name : List ℕ) → places name ≡ place_from 0 lines name) →
    drop i lines ≡ rest → address ≡ address_of lines i →
    Tells (words_from places (i + 1) address rest)
    (map (λ x. (x.0 + 1, word_at lines x.0 x.1)) (filter (λ x. gives_word x.1) (enumerate_from i rest)))
words_from-given lines places i address [] has is at = refl
words_from-given lines places i address (line ∷ rest) has is at =
    let n = next lines i line rest is in
    elim (cases_Bool (gives_word line)) [
      | inl gives ↦
          let more : address + 4 ≡ address_of lines (i + 1) =
          omega (arith, at, address_more lines i line rest n gives) in
          rw (gives, word_from-at lines places i address line rest has at is gives)
          (Tells-more (i + 1) (word_at lines i line) _ _
          (words_from-given lines places (i + 1) (address + 4) rest has n.after more))
      | inr blank ↦
          let same : address ≡ address_of lines (i + 1) = at ∙ sym (address_same lines i line rest n blank) in
          rw blank (words_from-given lines places (i + 1) address rest has n.after same)
    ]

-- what the course gives is what the text assembles to
pub Assembles-from :
    (text : List ℕ) (places : List ℕ → Option ℕ) (result : Result (Vec ℕ Global) AsmFault) →
    ((name : List ℕ) → places name ≡ place_from 0 (lines_of text) name) →
    Gives result (words_from places 1 0 (lines_of text)) → Assembles text result
Assembles-from text places result has gives =
    by_result result _ gives
    (words_from-given (lines_of text) places 0 0 (lines_of text) has refl refl)
  where
    by_result :
        (r : Result (Vec ℕ Global) AsmFault) (meant : Result (List ℕ) AsmFault) → Gives r meant →
        Tells meant (given (lines_of text)) → Assembles text r
    by_result (Ok words) meant is tells =
        let P : Result (List ℕ) AsmFault → Type 0 = λ m. Tells m (given (lines_of text)) in subst P is tells
    by_result (Err (Line n cause)) meant is tells =
        let P : Result (List ℕ) AsmFault → Type 0 = λ m. Tells m (given (lines_of text)) in subst P is tells
    by_result (Err Memory) meant is tells = tt
