-- A line with its variables replaced, piece by piece.
use Rattle.std.proofs.Common.{◌≡◌, ℕ, ◌+◌, ◌<◌, ◌==◌, ◌++◌, ◌∙◌, Bool, true, false, cond, List, [], ◌∷◌, length, take}
use Rattle.std.proofs.Common.{drop}
use Rattle.std.proofs.Common.{get_or, Option, Some, None, refl, sym, ap, eq-eqb, ne_eqb, eqb-true, append_assoc, arith}
use Rattle.std.specs.Option.{option_map}
use Rattle.std.proofs.lemmas.List.{take_all}
use Rattle.resc_read.specs.Piece.{IsFirstPiece}
use Rattle.std.proofs.lemmas.Bool.Decides.{nat_tests}
use Rattle.resc_read.specs.Words.{is_blank, pieces, gaps}
use Rattle.resc_vars.specs.Variables.{Variables, stands_for, each, weave, replaced}

front_woven :
    (gs : List ℕ) (y : List ℕ) (g : ℕ) (o : Option (List (List ℕ))) →
    option_map (λ all. weave all (g ∷ gs)) (option_map (λ ys. y ∷ ys) o)
    ≡ option_map (λ more. y ++ g ∷ more) (option_map (λ all. weave all gs) o)
front_woven gs y g None = refl
front_woven gs y g (Some ys) = refl

woven :
    (ps : List (List ℕ)) (gs : List ℕ) (f : List ℕ → Option (List ℕ)) (p y : List ℕ) (g : ℕ) → f p ≡ Some y →
    option_map (λ all. weave all (g ∷ gs)) (each f (p ∷ ps))
    ≡ option_map (λ more. y ++ g ∷ more) (option_map (λ all. weave all gs) (each f ps))
woven ps gs f p y g here = rw here (front_woven gs y g (each f ps))

pub replaced_last :
    (vars : Variables) (line text : List ℕ) (n : ℕ) → IsFirstPiece line n → n ≡ length line →
    stands_for vars (take n line) ≡ Some text → replaced vars line ≡ Some text
unfolding replaced
replaced_last vars line text n first whole here =
    let ends = eq-eqb _ _ whole in
    let all : take n line ≡ line = take_all n line (omega arith) in
    let said : stands_for vars line ≡ Some text = rw all at here in
    let pieces_are : pieces false line ≡ line ∷ [] = rw ends at first.pieces in
    let gaps_are : gaps false line ≡ [] = rw ends at first.gaps in
    rw (pieces_are, gaps_are, said) refl

replaced_more :
    (vars : Variables) (line text : List ℕ) (n : ℕ) → IsFirstPiece line n → n < length line →
    stands_for vars (take n line) ≡ Some text →
    replaced vars line ≡ option_map (λ more. text ++ get_or line n 0 ∷ more) (replaced vars (drop (n + 1) line))
unfolding replaced
replaced_more vars line text n first inner here =
    let goes_on = ne_eqb n (length line) (omega arith) in
    let pieces_are : pieces false line ≡ take n line ∷ pieces false (drop (n + 1) line) = rw goes_on at first.pieces in
    let gaps_are : gaps false line ≡ get_or line n 0 ∷ gaps false (drop (n + 1) line) = rw goes_on at first.gaps in
    rw (pieces_are, gaps_are)
    (woven (pieces false (drop (n + 1) line)) (gaps false (drop (n + 1) line)) (stands_for vars) (take n line) text
    (get_or line n 0) here)

fails_first :
    {X : Type 0} (b : Bool) (f : List ℕ → Option (List ℕ)) (x y : List ℕ) (xs : List (List ℕ))
    (g : List (List ℕ) → X) → f y ≡ None → (b ≡ true → x ≡ y) →
    option_map g (each f (cond b (x ∷ []) (y ∷ xs))) ≡ None
fails_first true f x y xs g none same = rw (same refl, none) refl
fails_first false f x y xs g none same = rw none refl

pub replaced_none :
    (vars : Variables) (line : List ℕ) (n : ℕ) → IsFirstPiece line n → stands_for vars (take n line) ≡ None →
    replaced vars line ≡ None
unfolding replaced
replaced_none vars line n first here =
    rw first.pieces
    (fails_first (n == length line) (stands_for vars) line (take n line) _ _ here
    (λ whole. sym (take_all n line (omega (arith, eqb-true n (length line) whole)))))

onto_more :
    (front text : List ℕ) (b : ℕ) (o : Option (List ℕ)) →
    option_map (λ more. ((front ++ text) ++ b ∷ []) ++ more) o
    ≡ option_map (λ more. front ++ more) (option_map (λ more. text ++ b ∷ more) o)
onto_more front text b None = refl
onto_more front text b (Some more) =
    ap Some (append_assoc (front ++ text) (b ∷ []) more ∙ append_assoc front text (b ∷ more))

-- a piece more
pub step_more :
    (vars : Variables) (line front text : List ℕ) (n : ℕ) (all : Option (List ℕ)) → IsFirstPiece line n →
    n < length line → stands_for vars (take n line) ≡ Some text →
    option_map (λ more. front ++ more) (replaced vars line) ≡ all →
    option_map (λ more. ((front ++ text) ++ get_or line n 0 ∷ []) ++ more) (replaced vars (drop (n + 1) line)) ≡ all
step_more vars line front text n all first inner here read =
    onto_more front text (get_or line n 0) (replaced vars (drop (n + 1) line))
    ∙ rw (replaced_more vars line text n first inner here) at read

pub blank_ascii : (b : ℕ) → is_blank b ≡ true → b < 128
blank_ascii b blank = grind (arith, nat_tests)
