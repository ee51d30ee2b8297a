-- A text has at most one line more than bytes.
use Rattle.std.proofs.Common.{◌≡◌, ℕ, ◌+◌, ◌≤◌, ◌^◌, suc, refl, List, [], ◌∷◌, ◌++◌, length, Bool, true, false}
use Rattle.std.proofs.Common.{cond, Option, None, Some, arith}
use Rattle.std.specs.Option.{option_map_or}
use Rattle.std.specs.Str.Lines.{lines}
use Rattle.std.proofs.lemmas.List.{length-append, length-map}
use Rattle.repl_read.specs.declared.comments.Inside.{Inside}
use Rattle.repl_read.specs.declared.comments.Inside.TheVariants.{Nothing, Words, Line, Block}
use Rattle.repl_read.specs.Comments.{turn_at, after_sign, seen, closes, marks, blanked}
use Rattle.repl_read.specs.Platform.{token_lines}
use Rattle.repl_read.specs.Tokens.{token_line}
use Rattle.lab_num.proofs.LineLemmas.{lines-le}

length-marks : (inside : Inside) (rest : List ℕ) → length (marks inside rest) ≡ 2
length-marks Nothing rest = refl
length-marks Words rest = refl
length-marks Line rest = refl
length-marks Block rest = either (closes rest)
  where
    either : (b : Bool) → length {A = ℕ} (cond b (32 ∷ 32 ∷ []) (32 ∷ 42 ∷ [])) ≡ 2
    either true = refl
    either false = refl

by_turn-length :
    (o : Option Inside) (sign : ℕ) (one two : List ℕ) (rest : Inside → List ℕ) (n : ℕ) →
    length one ≡ suc n → ((then_ : Inside) → length (rest then_) ≡ n) →
    length (option_map_or (λ then_. marks then_ two ++ rest then_) o (sign ∷ one)) ≡ suc (suc n)
by_turn-length None sign one two rest n here there = omega (arith, here)
by_turn-length (Some then_) sign one two rest n here there =
    omega (arith, length-append (marks then_ two) (rest then_), length-marks then_ two, there then_)

length-blanked : (inside : Inside) (text : List ℕ) → length (blanked inside text) ≡ length text
length-blanked inside [] = refl
length-blanked inside (b ∷ []) = refl
length-blanked inside (b ∷ next ∷ bs) =
    by_turn-length (turn_at inside b next) (seen inside b next) (blanked (after_sign inside b) (next ∷ bs)) bs
    (λ then_. blanked then_ bs) (length bs) (length-blanked (after_sign inside b) (next ∷ bs))
    (λ then_. length-blanked then_ bs)

pub lines_few : (text : List ℕ) → length text ≤ 2 ^ 24 → length (token_lines text) ≤ 2 ^ 24 + 1
lines_few text few =
    omega (
      arith,
      length-map (lines (blanked Nothing text)) token_line,
      lines-le (blanked Nothing text),
      length-blanked Nothing text,
    )
