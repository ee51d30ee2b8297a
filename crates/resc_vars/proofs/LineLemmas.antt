-- The first line of a text.
use Rattle.std.proofs.Common.{◌≡◌, ◌∷◌, ◌++◌, ◌<◌, ◌+◌, ◌∙◌, ℕ, List, [], length, take, Bool, true}
use Rattle.std.proofs.Common.{false, cond, suc, arith, refl, sym, ap, nat_lt, Some, None}
use Rattle.std.specs.List.{position_or_len, before_first, after_first}
use Rattle.std.specs.Str.Lines.{lines, strip_carriage_return}
use Rattle.std.proofs.lemmas.Bool.{ltb-true, ltb-false}
use Rattle.std.proofs.lemmas.Option.{cond_some}
use Rattle.std.proofs.lemmas.List.{take_all, take-append-drop}
use Rattle.lab_num.specs.Time.{cut}
use Rattle.lab_num.proofs.LineLemmas.{feed, line_before, last_line, lines-le}
use Rattle.resc_vars.specs.Inner.Rest.{EndsWith}
use Rattle.resc_vars.specs.Numbered.{numbered, shown}

cut_some :
    (text line rest : List ℕ) → cut 10 text ≡ Some (line, rest) →
    let parts : List ℕ × List ℕ = (before_first feed text, after_first feed text) in
    let found : List ℕ × List ℕ = (line, rest) in
    (nat_lt (position_or_len feed text) (length text) ≡ true) × (parts ≡ found)
cut_some text line rest is =
    cond_some (nat_lt (position_or_len feed text) (length text)) (before_first feed text, after_first feed text)
    (line, rest)
    is

-- a text that is cut at its first line feed
pub cut_lines :
    (text line rest : List ℕ) → cut 10 text ≡ Some (line, rest) → lines text ≡ strip_carriage_return line ∷ lines rest
cut_lines text line rest is =
    let (inside, both) = cut_some text line rest is in
    line_before text (ltb-true _ _ inside)
    ∙ ap (λ (x : List ℕ × List ℕ). strip_carriage_return x.0 ∷ lines x.1) both

pub cut_ends : (text line rest : List ℕ) → cut 10 text ≡ Some (line, rest) → EndsWith text rest
cut_ends text line rest is =
    let (inside, both) = cut_some text line rest is in
    let n = position_or_len feed text + 1 in
    (take n text, sym (take-append-drop n text) ∙ ap (λ (x : List ℕ × List ℕ). take n text ++ x.1) both)

-- one without a line feed is a line, unless it is empty
pub uncut_lines : (text : List ℕ) → 0 < length text → cut 10 text ≡ None → lines text ≡ text ∷ []
uncut_lines text some is =
    last_line text some
    (ltb-false _ _
    (no_pair (nat_lt (position_or_len feed text) (length text)) (before_first feed text, after_first feed text) is))
  where
    no_pair : {A : Type 0} (b : Bool) (x : A) → cond b (Some x) None ≡ None → b ≡ false
    no_pair true x is = cc
    no_pair false x is = refl

length-numbered : (n : ℕ) (texts : List (List ℕ)) → length (numbered n texts) ≡ length texts
length-numbered n [] = refl
length-numbered n (text ∷ texts) = ap suc (length-numbered (n + 1) texts)

-- all lines of a text, which has at most one more than bytes
pub shown_all : (text : List ℕ) → shown (length text + 1) 1 text ≡ numbered 1 (lines text)
shown_all text =
    take_all (length text + 1) (numbered 1 (lines text)) (omega (arith, length-numbered 1 (lines text), lines-le text))
