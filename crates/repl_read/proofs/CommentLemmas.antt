-- Comments, one or two signs at a time.
use Rattle.std.proofs.Common.{◌≡◌, ℕ, ◌∙◌, refl, List, [], ◌∷◌, ◌++◌, get_or, Option, None, Some, append_assoc}
use Rattle.std.specs.Option.{option_map, option_map_or}
use Rattle.repl_read.specs.declared.comments.Inside.{Inside}
use Rattle.repl_read.specs.Comments.{turn_at, after_sign, seen, marks, blanked}
use Rattle.repl_read.specs.Inner.Turns.{turn}

-- what follows a turn, with the rest of the text at hand
abbrev pub turned : Inside × List ℕ → List ℕ
turned x = marks x.0 x.1 ++ blanked x.0 x.1

by_turn :
    (bs plain : List ℕ) (o : Option Inside) →
    option_map_or (λ then_. marks then_ bs ++ blanked then_ bs) o plain
    ≡ option_map_or turned (option_map (λ then_. (then_, bs)) o) plain
by_turn bs plain None = refl
by_turn bs plain (Some then_) = refl

-- the first sign, or the first two
pub blanked_first :
    (inside : Inside) (b : ℕ) (more : List ℕ) →
    blanked inside (b ∷ more)
    ≡ option_map_or turned (turn inside b more) (seen inside b (get_or more 0 0) ∷ blanked (after_sign inside b) more)
blanked_first inside b [] = refl
blanked_first inside b (next ∷ bs) =
    by_turn bs (seen inside b next ∷ blanked (after_sign inside b) (next ∷ bs)) (turn_at inside b next)

pub blanked_turn :
    (inside then_ : Inside) (front : List ℕ) (b : ℕ) (more rest whole : List ℕ) →
    turn inside b more ≡ Some (then_, rest) → front ++ blanked inside (b ∷ more) ≡ whole →
    (front ++ marks then_ rest) ++ blanked then_ rest ≡ whole
blanked_turn inside then_ front b more rest whole turns read =
    append_assoc front (marks then_ rest) (blanked then_ rest) ∙ rw (blanked_first inside b more, turns) at read

pub blanked_one :
    (inside : Inside) (front : List ℕ) (b : ℕ) (more whole : List ℕ) →
    turn inside b more ≡ None → front ++ blanked inside (b ∷ more) ≡ whole →
    (front ++ seen inside b (get_or more 0 0) ∷ []) ++ blanked (after_sign inside b) more ≡ whole
blanked_one inside front b more whole stays read =
    append_assoc front (seen inside b (get_or more 0 0) ∷ []) (blanked (after_sign inside b) more)
    ∙ rw (blanked_first inside b more, stays) at read
