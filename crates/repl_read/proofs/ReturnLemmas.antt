-- A text with a carriage return before each line feed.
use Rattle.std.proofs.Common.{◌≡◌, ℕ, ◌-◌, ◌==◌, ◌∙◌, inl, inr, Bool, true, false, cond, refl, sym, ap, List, []}
use Rattle.std.proofs.Common.{◌∷◌, ◌++◌, get_or, map, Option, None, Some, arith}
use Rattle.std.specs.List.{list_all}
use Rattle.std.specs.Option.{option_map_or}
use Rattle.std.specs.Str.Lines.{lines}
use Rattle.std.proofs.lemmas.Bool.{and_parts}
use Rattle.std.proofs.lemmas.Bool.Decides.{eqb_tells, nat_tests}
use Rattle.std.proofs.lemmas.List.Folds.{list_all-append}
use Rattle.repl_read.specs.declared.comments.Inside.{Inside}
use Rattle.repl_read.specs.declared.comments.Inside.TheVariants.{Nothing, Words, Line, Block}
use Rattle.repl_read.specs.Comments.{turn_at, after_sign, ends_line, seen, closes, marks, blanked}
use Rattle.lab_num.specs.Returns.{is_no_return, with_returns}
use Rattle.repl_read.specs.Platform.{platform, entries_of}
use Rattle.repl_read.specs.Tokens.{token_line}
use Rattle.repl_read.specs.Inner.Turns.{turn}
use Rattle.repl_read.proofs.CommentLemmas.{blanked_first}
use Rattle.repl_read.proofs.Utf8Lemmas.{neither, never}

abbrev no_returns : List ℕ → Bool
no_returns x = list_all is_no_return x

first_returns : (bs : List ℕ) → (get_or (with_returns bs) 0 0 == 47) ≡ (get_or bs 0 0 == 47)
first_returns [] = refl
first_returns (b ∷ bs) =
    elim (eqb_tells b 10) [
      | inl feed ↦ rw (feed.0, feed.1) refl
      | inr other ↦ rw other.0 refl
    ]

closes_returns : (bs : List ℕ) → closes (with_returns bs) ≡ closes bs
closes_returns [] = refl
closes_returns (b ∷ bs) =
    elim (eqb_tells b 10) [
      | inl feed ↦ rw (feed.0, feed.1) (closes_returns bs)
      | inr other ↦ rw (other.0, first_returns bs, closes_returns bs) refl
    ]

-- a line feed and a carriage return begin and end no comment
turn_at_feed : (inside : Inside) (b : ℕ) → turn_at inside b 10 ≡ None
turn_at_feed Nothing b = neither (b == 47) (b == 47)
turn_at_feed Words b = refl
turn_at_feed Line b = refl
turn_at_feed Block b = never (b == 42)

turn_at_return : (inside : Inside) (b : ℕ) → turn_at inside b 13 ≡ None
turn_at_return Nothing b = neither (b == 47) (b == 47)
turn_at_return Words b = refl
turn_at_return Line b = refl
turn_at_return Block b = never (b == 42)

feed_turn : (inside : Inside) (bs : List ℕ) → turn inside 10 bs ≡ None
feed_turn inside [] = refl
feed_turn Nothing (next ∷ bs) = refl
feed_turn Words (next ∷ bs) = refl
feed_turn Line (next ∷ bs) = refl
feed_turn Block (next ∷ bs) = refl

turn_returns :
    (inside : Inside) (b next : ℕ) (bs : List ℕ) → turn_at inside b next ≡ None →
    turn inside b (with_returns (next ∷ bs)) ≡ None
turn_returns inside b next bs none =
    elim (eqb_tells next 10) [
      | inl feed ↦ rw (feed.0, turn_at_return inside b) refl
      | inr other ↦ rw (other.0, none) refl
    ]

turn_no_feed :
    (inside : Inside) (b next : ℕ) (then_ : Inside) → turn_at inside b next ≡ Some then_ → (next == 10) ≡ false
turn_no_feed inside b next then_ is =
    elim (eqb_tells next 10) [
      | inl feed ↦
          let none : turn_at inside b next ≡ None = rw feed.1 (turn_at_feed inside b) in
          cc
      | inr other ↦ other.0
    ]

-- a line feed stays, whatever it stands in, and a carriage return before it
feed_blanked : (inside : Inside) (bs : List ℕ) → blanked inside (10 ∷ bs) ≡ 10 ∷ blanked (after_sign inside 10) bs
feed_blanked Nothing bs = blanked_first Nothing 10 bs ∙ rw (feed_turn Nothing bs) refl
feed_blanked Words bs = blanked_first Words 10 bs ∙ rw (feed_turn Words bs) refl
feed_blanked Line bs = blanked_first Line 10 bs ∙ rw (feed_turn Line bs) refl
feed_blanked Block bs = blanked_first Block 10 bs ∙ rw (feed_turn Block bs) refl

return_blanked :
    (inside : Inside) (bs : List ℕ) → blanked inside (13 ∷ 10 ∷ bs) ≡ 13 ∷ 10 ∷ blanked (after_sign inside 10) bs
return_blanked Nothing bs = ap (λ xs. 13 ∷ xs) (feed_blanked Nothing bs)
return_blanked Words bs = ap (λ xs. 13 ∷ xs) (feed_blanked Words bs)
return_blanked Line bs = ap (λ xs. 13 ∷ xs) (feed_blanked Line bs)
return_blanked Block bs = ap (λ xs. 13 ∷ xs) (feed_blanked Block bs)

-- any other sign that is no carriage return does not look at the next one
seen_same :
    (inside : Inside) (b next other : ℕ) → (b == 10) ≡ false → (b == 13) ≡ false →
    seen inside b next ≡ seen inside b other
seen_same Nothing b next other feed return_ = refl
seen_same Words b next other feed return_ = refl
seen_same Line b next other feed return_ = rw (feed, return_) refl
seen_same Block b next other feed return_ = rw (feed, return_) refl

seen_no_feed :
    (inside : Inside) (b next : ℕ) → (b == 10) ≡ false → (b == 13) ≡ false → (seen inside b next == 10) ≡ false
seen_no_feed Nothing b next feed return_ = feed
seen_no_feed Words b next feed return_ = feed
seen_no_feed Line b next feed return_ = rw (feed, return_) refl
seen_no_feed Block b next feed return_ = rw (feed, return_) refl

marks_returns :
    (inside : Inside) (rest bs : List ℕ) →
    with_returns (marks inside rest ++ bs) ≡ marks inside rest ++ with_returns bs
marks_returns Nothing rest bs = refl
marks_returns Words rest bs = refl
marks_returns Line rest bs = refl
marks_returns Block rest bs = either (closes rest)
  where
    either :
        (c : Bool) →
        with_returns (cond c (32 ∷ 32 ∷ []) (32 ∷ 42 ∷ []) ++ bs)
        ≡ cond c (32 ∷ 32 ∷ []) (32 ∷ 42 ∷ []) ++ with_returns bs
    either true = refl
    either false = refl

marks_same : (inside : Inside) (rest : List ℕ) → marks inside (with_returns rest) ≡ marks inside rest
marks_same Nothing rest = refl
marks_same Words rest = refl
marks_same Line rest = refl
marks_same Block rest = rw (closes_returns rest) refl

no_return-eqb : (b : ℕ) → is_no_return b ≡ true → (b == 13) ≡ false
no_return-eqb b here = grind (arith, nat_tests)

returns_by :
    (inside : Inside) (b next : ℕ) (bs : List ℕ) (o : Option Inside) → turn_at inside b next ≡ o →
    (b == 10) ≡ false → (b == 13) ≡ false →
    blanked (after_sign inside b) (with_returns (next ∷ bs))
    ≡ with_returns (blanked (after_sign inside b) (next ∷ bs)) →
    ((then_ : Inside) → blanked then_ (with_returns bs) ≡ with_returns (blanked then_ bs)) →
    blanked inside (b ∷ with_returns (next ∷ bs)) ≡ with_returns (blanked inside (b ∷ next ∷ bs))
returns_by inside b next bs None is feed return_ one two =
    blanked_first inside b (with_returns (next ∷ bs))
    ∙ rw (
      turn_returns inside b next bs is,
      is,
      seen_no_feed inside b next feed return_,
      seen_same inside b (get_or (with_returns (next ∷ bs)) 0 0) next feed return_,
      one,
    ) refl
returns_by inside b next bs (Some then_) is feed return_ one two =
    rw
    (turn_no_feed inside b next then_ is, is, marks_same then_ bs, two then_, marks_returns then_ bs (blanked then_ bs))
    refl

last_returns :
    (inside : Inside) (b : ℕ) → (b == 13) ≡ false →
    blanked inside (with_returns (b ∷ [])) ≡ with_returns (blanked inside (b ∷ []))
last_returns inside b return_ =
    elim (eqb_tells b 10) [
      | inl feed ↦ rw feed.1 (return_blanked inside [] ∙ ap with_returns (sym (feed_blanked inside [])))
      | inr other ↦ rw (other.0, seen_no_feed inside b 0 other.0 return_) refl
    ]

blanked_returns :
    (inside : Inside) (text : List ℕ) → no_returns text ≡ true →
    blanked inside (with_returns text) ≡ with_returns (blanked inside text)
blanked_returns inside [] all = refl
blanked_returns inside (b ∷ []) all = last_returns inside b (no_return-eqb b (and_parts (is_no_return b) true all).0)
blanked_returns inside (b ∷ next ∷ bs) all =
    let both = and_parts (is_no_return b) (no_returns (next ∷ bs)) all in
    let rest = and_parts (is_no_return next) (no_returns bs) both.1 in
    let one = blanked_returns (after_sign inside b) (next ∷ bs) both.1 in
    let two : (then_ : Inside) → blanked then_ (with_returns bs) ≡ with_returns (blanked then_ bs) =
    λ then_. blanked_returns then_ bs rest.1 in
    elim (eqb_tells b 10) [
      | inl feed ↦
          let same :
          blanked (after_sign inside 10) (with_returns (next ∷ bs))
          ≡ with_returns (blanked (after_sign inside 10) (next ∷ bs)) =
          rw feed.1 at one in
          rw feed.1
          (return_blanked inside (with_returns (next ∷ bs))
          ∙ (ap (λ xs. 13 ∷ 10 ∷ xs) same ∙ ap with_returns (sym (feed_blanked inside (next ∷ bs)))))
      | inr other ↦
          rw other.0
          (returns_by inside b next bs (turn_at inside b next) refl other.0 (no_return-eqb b both.0) one two)
    ]

-- blanks bring no carriage returns
seen_none : (inside : Inside) (b next : ℕ) → is_no_return b ≡ true → is_no_return (seen inside b next) ≡ true
seen_none Nothing b next here = here
seen_none Words b next here = here
seen_none Line b next here = choice (ends_line b next)
  where
    choice : (c : Bool) → is_no_return (cond c b 32) ≡ true
    choice true = here
    choice false = refl
seen_none Block b next here = choice (ends_line b next)
  where
    choice : (c : Bool) → is_no_return (cond c b 32) ≡ true
    choice true = here
    choice false = refl

marks_none : (inside : Inside) (rest : List ℕ) → no_returns (marks inside rest) ≡ true
marks_none Nothing rest = refl
marks_none Words rest = refl
marks_none Line rest = refl
marks_none Block rest = either (closes rest)
  where
    either : (c : Bool) → no_returns (cond c (32 ∷ 32 ∷ []) (32 ∷ 42 ∷ [])) ≡ true
    either true = refl
    either false = refl

none_by :
    (o : Option Inside) (bs plain : List ℕ) → no_returns plain ≡ true →
    ((then_ : Inside) → no_returns (blanked then_ bs) ≡ true) →
    no_returns (option_map_or (λ then_. marks then_ bs ++ blanked then_ bs) o plain) ≡ true
none_by None bs plain one two = one
none_by (Some then_) bs plain one two =
    list_all-append is_no_return (marks then_ bs) (blanked then_ bs) ∙ rw (marks_none then_ bs, two then_) refl

blanked_none : (inside : Inside) (text : List ℕ) → no_returns text ≡ true → no_returns (blanked inside text) ≡ true
blanked_none inside [] all = refl
blanked_none inside (b ∷ []) all = rw (seen_none inside b 0 (and_parts (is_no_return b) true all).0) refl
blanked_none inside (b ∷ next ∷ bs) all =
    let both = and_parts (is_no_return b) (no_returns (next ∷ bs)) all in
    let rest = and_parts (is_no_return next) (no_returns bs) both.1 in
    none_by (turn_at inside b next) bs _
    (rw (seen_none inside b next both.0) (blanked_none (after_sign inside b) (next ∷ bs) both.1))
    (λ then_. blanked_none then_ bs rest.1)

-- a text without carriage returns has the lines that it has with them
abbrev Stay : Type 0
Stay = (text : List ℕ) → no_returns text ≡ true → lines (with_returns text) ≡ lines text

pub platform_returns : Stay → (text : List ℕ) → no_returns text ≡ true → platform (with_returns text) ≡ platform text
unfolding platform
platform_returns stay text all =
    ap (λ blank. entries_of (map token_line (lines blank))) (blanked_returns Nothing text all)
    ∙ ap (λ ends. entries_of (map token_line ends)) (stay (blanked Nothing text) (blanked_none Nothing text all))
