-- A text with blanks for its comments has none.
use Rattle.std.proofs.Common.{◌≡◌, ℕ, ◌==◌, ◌&&◌, ◌||◌, ◌∙◌, inl, inr, Bool, true, false, cond, refl, ap, List, [], map}
use Rattle.std.proofs.Common.{◌∷◌, ◌++◌, Option, None, Some}
use Rattle.std.specs.Option.{option_map_or}
use Rattle.std.specs.Str.Lines.{lines}
use Rattle.repl_read.specs.declared.comments.Inside.{Inside}
use Rattle.repl_read.specs.declared.comments.Inside.TheVariants.{Nothing, Words, Line, Block}
use Rattle.repl_read.specs.Comments.{quote, turn_at, after_sign, ends_line, seen, closes, marks, blanked}
use Rattle.repl_read.specs.Platform.{platform, entries_of}
use Rattle.repl_read.specs.Tokens.{token_line}
use Rattle.repl_read.specs.Inner.Turns.{turn}
use Rattle.std.proofs.lemmas.Bool.Decides.{eqb_tells}
use Rattle.repl_read.proofs.CommentLemmas.{blanked_first, turned}
use Rattle.repl_read.proofs.Utf8Lemmas.{neither}

-- in what a sign stands once comments are blanks
abbrev outside : Inside → Inside
outside Words = Words
outside _ = Nothing

-- a sign that does not begin a comment
pub plain :
    (b : ℕ) (bs : List ℕ) → turn Nothing b bs ≡ None →
    blanked Nothing (b ∷ bs) ≡ b ∷ blanked (after_sign Nothing b) bs
plain b bs none = blanked_first Nothing b bs ∙ rw none refl

no_slash-turn : (b next : ℕ) → (b == 47) ≡ false → turn_at Nothing b next ≡ None
no_slash-turn b next other = rw other refl

no_slash : (b : ℕ) (bs : List ℕ) → (b == 47) ≡ false → turn Nothing b bs ≡ None
no_slash b [] other = refl
no_slash b (next ∷ bs) other = rw (no_slash-turn b next other) refl

-- a blank, a line's end or `*`
pub dull :
    (b : ℕ) (bs : List ℕ) → (b == 47) ≡ false → (b == 34) ≡ false → blanked Nothing (b ∷ bs) ≡ b ∷ blanked Nothing bs
dull b bs slash string = plain b bs (no_slash b bs slash) ∙ rw string refl

marks_again :
    (inside : Inside) (rest bs : List ℕ) →
    blanked Nothing (marks inside rest ++ bs) ≡ marks inside rest ++ blanked Nothing bs
marks_again Nothing rest bs = dull 32 (32 ∷ bs) refl refl ∙ ap (λ xs. 32 ∷ xs) (dull 32 bs refl refl)
marks_again Words rest bs = dull 32 (32 ∷ bs) refl refl ∙ ap (λ xs. 32 ∷ xs) (dull 32 bs refl refl)
marks_again Line rest bs = dull 32 (32 ∷ bs) refl refl ∙ ap (λ xs. 32 ∷ xs) (dull 32 bs refl refl)
marks_again Block rest bs = either (closes rest)
  where
    either :
        (b : Bool) →
        blanked Nothing (cond b (32 ∷ 32 ∷ []) (32 ∷ 42 ∷ []) ++ bs)
        ≡ cond b (32 ∷ 32 ∷ []) (32 ∷ 42 ∷ []) ++ blanked Nothing bs
    either true = dull 32 (32 ∷ bs) refl refl ∙ ap (λ xs. 32 ∷ xs) (dull 32 bs refl refl)
    either false = dull 32 (42 ∷ bs) refl refl ∙ ap (λ xs. 32 ∷ xs) (dull 42 bs refl refl)

words_turn : (b : ℕ) (bs : List ℕ) → turn Words b bs ≡ None
words_turn b [] = refl
words_turn b (next ∷ bs) = refl

pub words_plain : (b : ℕ) (bs : List ℕ) → blanked Words (b ∷ bs) ≡ b ∷ blanked (after_sign Words b) bs
words_plain b bs = blanked_first Words b bs ∙ rw (words_turn b bs) refl

-- no string begins or ends at a turn
turn_choice :
    (x y : Bool) (then_ : Inside) → cond x (Some Line) (cond y (Some Block) None) ≡ Some then_ → outside then_ ≡ Nothing
turn_choice true y then_ is =
    let same : Line ≡ then_ = cc in
    rw (← same) refl
turn_choice false true then_ is =
    let same : Block ≡ then_ = cc in
    rw (← same) refl
turn_choice false false then_ is = cc

end_choice : (x : Bool) (then_ : Inside) → cond x (Some Nothing) None ≡ Some then_ → outside then_ ≡ Nothing
end_choice true then_ is =
    let same : Nothing ≡ then_ = cc in
    rw (← same) refl
end_choice false then_ is = cc

turn_outside :
    (inside : Inside) (b next : ℕ) (then_ : Inside) → turn_at inside b next ≡ Some then_ →
    (outside inside ≡ Nothing) × (outside then_ ≡ Nothing)
turn_outside Nothing b next then_ is =
    (refl, turn_choice (b == 47 && next == 47) (b == 47 && next == 42) then_ is)
turn_outside Words b next then_ is = cc
turn_outside Line b next then_ is = cc
turn_outside Block b next then_ is = (refl, end_choice (b == 42 && next == 47) then_ is)

-- no comment begins at a sign and what is seen of the next one
no_turn_blank : (b : ℕ) → turn_at Nothing b 32 ≡ None
no_turn_blank b = neither (b == 47) (b == 47)

no_turn_marks : (b : ℕ) (then_ : Inside) (rest bs : List ℕ) → turn Nothing b (marks then_ rest ++ bs) ≡ None
no_turn_marks b Nothing rest bs = rw (no_turn_blank b) refl
no_turn_marks b Words rest bs = rw (no_turn_blank b) refl
no_turn_marks b Line rest bs = rw (no_turn_blank b) refl
no_turn_marks b Block rest bs = either (closes rest)
  where
    either : (c : Bool) → turn Nothing b (cond c (32 ∷ 32 ∷ []) (32 ∷ 42 ∷ []) ++ bs) ≡ None
    either true = rw (no_turn_blank b) refl
    either false = rw (no_turn_blank b) refl

no_turn_first :
    (b next : ℕ) (plain : List ℕ) (o : Option (Inside × List ℕ)) → turn_at Nothing b next ≡ None →
    turn Nothing b (option_map_or turned o (next ∷ plain)) ≡ None
no_turn_first b next plain None none = rw none refl
no_turn_first b next plain (Some x) none = no_turn_marks b x.0 x.1 (blanked x.0 x.1)

no_turn_behind :
    (c : Bool) (b next : ℕ) (bs : List ℕ) → turn_at Nothing b next ≡ None →
    turn Nothing b (blanked (cond c Words Nothing) (next ∷ bs)) ≡ None
no_turn_behind true b next bs none =
    rw (blanked_first Words next bs, words_turn next bs) (rw none refl)
no_turn_behind false b next bs none =
    rw (blanked_first Nothing next bs)
    (no_turn_first b next (blanked (after_sign Nothing next) bs) (turn Nothing next bs) none)

-- what is seen of a sign of a comment begins nothing
comment_dull :
    (b next : ℕ) → ((cond (ends_line b next) b 32 == 47) ≡ false) × ((cond (ends_line b next) b 32 == 34) ≡ false)
comment_dull b next =
    elim (eqb_tells b 10) [
      | inl ten ↦ rw ten.1 (refl, refl)
      | inr other ↦ rw other.0 (elim (eqb_tells b 13) [
        | inl return_ ↦ rw return_.1 (at_return (next == 10))
        | inr neither_ ↦ rw neither_.0 (refl, refl)
      ])
    ]
  where
    at_return : (c : Bool) → ((cond c 13 32 == 47) ≡ false) × ((cond c 13 32 == 34) ≡ false)
    at_return true = (refl, refl)
    at_return false = (refl, refl)

outside_choice : (c : Bool) → outside (cond c Words Nothing) ≡ cond c Words Nothing
outside_choice true = refl
outside_choice false = refl

outside_words : (c : Bool) → outside (cond c Nothing Words) ≡ cond c Nothing Words
outside_words true = refl
outside_words false = refl

outside_line : (c : Bool) → outside (cond c Nothing Line) ≡ Nothing
outside_line true = refl
outside_line false = refl

-- one sign that begins and ends nothing
again_one :
    (inside : Inside) (b next : ℕ) (bs : List ℕ) → turn_at inside b next ≡ None →
    blanked (outside (after_sign inside b)) (blanked (after_sign inside b) (next ∷ bs))
    ≡ blanked (after_sign inside b) (next ∷ bs) →
    blanked (outside inside) (seen inside b next ∷ blanked (after_sign inside b) (next ∷ bs))
    ≡ seen inside b next ∷ blanked (after_sign inside b) (next ∷ bs)
again_one Nothing b next bs none same =
    let rest = blanked (after_sign Nothing b) (next ∷ bs) in
    plain b rest (no_turn_behind (b == quote) b next bs none)
    ∙ ap (λ xs. b ∷ xs) (rw (outside_choice (b == quote)) at same)
again_one Words b next bs none same =
    let rest = blanked (after_sign Words b) (next ∷ bs) in
    words_plain b rest ∙ ap (λ xs. b ∷ xs) (rw (outside_words (b == quote || b == 10)) at same)
again_one Line b next bs none same =
    let rest = blanked (after_sign Line b) (next ∷ bs) in
    let y = cond (ends_line b next) b 32 in
    dull y rest (comment_dull b next).0 (comment_dull b next).1
    ∙ ap (λ xs. y ∷ xs) (rw (outside_line (b == 10)) at same)
again_one Block b next bs none same =
    let y = cond (ends_line b next) b 32 in
    dull y (blanked Block (next ∷ bs)) (comment_dull b next).0 (comment_dull b next).1 ∙ ap (λ xs. y ∷ xs) same

-- two signs that begin or end a comment
again_two :
    (then_ : Inside) (bs : List ℕ) → outside then_ ≡ Nothing →
    blanked (outside then_) (blanked then_ bs) ≡ blanked then_ bs →
    blanked Nothing (marks then_ bs ++ blanked then_ bs) ≡ marks then_ bs ++ blanked then_ bs
again_two then_ bs out same =
    marks_again then_ bs (blanked then_ bs) ∙ ap (λ xs. marks then_ bs ++ xs) (rw out at same)

again_by :
    (inside : Inside) (b next : ℕ) (bs : List ℕ) (o : Option Inside) → turn_at inside b next ≡ o →
    blanked (outside (after_sign inside b)) (blanked (after_sign inside b) (next ∷ bs))
    ≡ blanked (after_sign inside b) (next ∷ bs) →
    ((then_ : Inside) → blanked (outside then_) (blanked then_ bs) ≡ blanked then_ bs) →
    blanked (outside inside) (blanked inside (b ∷ next ∷ bs)) ≡ blanked inside (b ∷ next ∷ bs)
again_by inside b next bs None is one two = rw is (again_one inside b next bs is one)
again_by inside b next bs (Some then_) is one two =
    let out = turn_outside inside b next then_ is in
    rw (is, out.0) (again_two then_ bs out.1 (two then_))

last_again : (inside : Inside) (b : ℕ) → blanked (outside inside) (seen inside b 0 ∷ []) ≡ seen inside b 0 ∷ []
last_again Nothing b = refl
last_again Words b = refl
last_again Line b = refl
last_again Block b = refl

pub blanked_again :
    (inside : Inside) (text : List ℕ) → blanked (outside inside) (blanked inside text) ≡ blanked inside text
blanked_again inside [] = refl
blanked_again inside (b ∷ []) = last_again inside b
blanked_again inside (b ∷ next ∷ bs) =
    again_by inside b next bs (turn_at inside b next) refl (blanked_again (after_sign inside b) (next ∷ bs))
    (λ then_. blanked_again then_ bs)

-- so the text reads as with its comments
pub platform_blanked : (text : List ℕ) → platform (blanked Nothing text) ≡ platform text
unfolding platform
platform_blanked text =
    ap (λ blank. entries_of (map token_line (lines blank))) (blanked_again Nothing text)
