-- The bench begins under its rule.
use Rattle.std.proofs.Common.{◌≡◌, ℕ, zero, suc, ◌+◌, ◌<◌, ◌==◌, Bool, true, false, List, [], ◌∷◌, ◌++◌, length}
use Rattle.std.proofs.Common.{map, take, get_or, All, sym, refl, ap, ◌∙◌, subst, arith, add-one, Option, Some}
use Rattle.std.proofs.Common.{None, if◌then◌else◌}
use mathlib.Core.Option.{some, none, some-ne-none, some-injective}
use mathlib.Core.Option as maybe
use lib.ListN.{get_elem?}
use Rattle.std.proofs.lemmas.List.{take_more, map_more, length-map}
use Rattle.std.proofs.lemmas.List.Elements.{All-push, All-same}
use Rattle.std.proofs.lemmas.Bool.Decides.{nat_tests}
use Rattle.atomic_table.specs.Table.{opening}
use Rattle.atomic_table.proofs.Lists.{at_map}
use Rattle.dev_core.specs.declared.post.Post.{Post}
use Rattle.floor_core.specs.Job.{Job, Rests}
use Rattle.floor_run.specs.declared.view.View.{View}
use Rattle.floor_run.specs.Turns.{slots_left, AfterTurns}
use Rattle.floor_run.specs.Rule.{Whereabouts, home, done, Tally, Homes, BoardRule, ViewRule, Rule}
use Rattle.floor_run.specs.View.{fresh}
use Rattle.floor_run.proofs.StepLemmas.{below}
use Rattle.floor_run.proofs.TurnLemmas.{begins}

-- the words of one board more
pub word_step :
    {J : Type 0} → (f : J → ℕ) (jobs : List J) (i : ℕ) (x : J) (ws : List ℕ) (w : ℕ) → i < length jobs →
    x ≡ get_or jobs i x → ws ≡ 0 ∷ map f (take i jobs) → w ≡ f x
    → ws ++ w ∷ [] ≡ 0 ∷ map f (take (i + 1) jobs)
word_step f jobs i x ws w h is e is_w =
    ap (λ l. l ++ w ∷ []) e ∙ ap (λ l. 0 ∷ l)
    (ap (λ (k : ℕ). map f (take i jobs) ++ k ∷ []) (is_w ∙ ap f is) ∙ sym (map_more f jobs i x h))

-- and what holds of each board
pub all_step :
    {J : Type 0} → (P : J → Type 0) (jobs : List J) (i : ℕ) (x : J) → i < length jobs → x ≡ get_or jobs i x →
    All P (take i jobs) → P x → All P (take (i + 1) jobs)
all_step P jobs i x h is all p =
    All-same P (take (i + 1) jobs) (take i jobs ++ get_or jobs i x ∷ []) (take_more jobs i x h)
    (All-push P (take i jobs) (get_or jobs i x) all (subst P is p))

-- an item by either way of reading a list
pub got : {A : Type 0} → (l : List A) (i : ℕ) (a d : A) → get_elem? l i ≡ some a → get_or l i d ≡ a
got [] i a d e = absurd (some-ne-none a (sym e))
got (x ∷ xs) zero a d e = some-injective x a e
got (x ∷ xs) (suc i) a d e = got xs i a d e

pub got_mapped :
    {A : Type 0} → (f : A → ℕ) (l : List A) (i : ℕ) (a : A) → get_elem? l i ≡ some a → get_or (map f l) i 0 ≡ f a
got_mapped f l i a e = got (map f l) i (f a) 0 (at_map f l i a e)

pub all_at : {A : Type 0} → (P : A → Type 0) (l : List A) (i : ℕ) (a : A) → All P l → get_elem? l i ≡ some a → P a
all_at P l i a all e = subst P (got l i a a e) (all i a (below l i a e))

abbrev whereabouts_of : Bool → Whereabouts
whereabouts_of true = done
whereabouts_of false = home

module _ {J S : Type 0} (meaning : J → Job S) (sent : J → List Post)
    (state_after : S → List (Option Post) → ℕ → S) where
  abbrev L : J → ℕ
  L = slots_left meaning

  abbrev At : J → ℕ → J → Type 0
  At = AfterTurns meaning sent state_after

  abbrev word : J → ℕ
  word job = if L job == 0 then 3 else 0

  abbrev tally_of : maybe.Option J → Tally
  tally_of none = (0, home)
  tally_of (some start) = (0, whereabouts_of (L start == 0))

  board_at :
      (words : List ℕ) (homes : Homes J) (views : List (View J)) (start : J) (i : ℕ) →
      get_or words (i + 1) 0 ≡ word start → get_elem? homes i ≡ some (some (Some start)) → At start 0 start →
      L start < 18446744073709551616
      → (b : Bool) → (L start == 0) ≡ b → BoardRule L At words homes views start i (0, whereabouts_of b)
  board_at words homes views start i shown lies stands fits true is =
      let zero_is : L start ≡ 0 = grind (arith, nat_tests) in
      record {
        shows = shown ∙ ap (λ (b : Bool). if b then 3 else 0) is;
        stands = (omega arith, (start, lies, stands));
        fits = fits;
      }
  board_at words homes views start i shown lies stands fits false is =
      let some_left : 0 < L start = grind (arith, nat_tests) in
      record {
        shows = shown ∙ ap (λ (b : Bool). if b then 3 else 0) is;
        stands = (omega arith, (start, lies, stands));
        fits = fits;
      }

  pub opens :
      Rests state_after → (starts : List J) (words : List ℕ) (cells : List (Option J)) → words ≡ 0 ∷ map word starts →
      cells ≡ map Some starts → All (λ job. (meaning job).unsent ≡ []) starts →
      All (λ job. L job < 18446744073709551616) starts
      → Rule L At starts (opening words cells (fresh starts))
  opens rests starts words cells words_are cells_are clean fit = let homes : Homes J = map some cells in record {
    tallies = λ i. tally_of (get_elem? starts i);
    wide = ap length words_are ∙ (omega (arith, length-map starts word));
    roomy = length-map cells some ∙ (ap length cells_are ∙ length-map starts Some);
    zero_is = ap (λ (l : List ℕ). get_or l 0 0) words_are;
    each_board = λ i start e.
        let shown : get_or words (i + 1) 0 ≡ word start = ap (λ (l : List ℕ). get_or l (i + 1) 0) words_are ∙
        (rw add-one (got_mapped word starts i start e)) in
        let lies : get_elem? homes i ≡ some (some (Some start)) = at_map some cells i (Some start)
        (ap (λ (l : List (Option J)). get_elem? l i) cells_are ∙ at_map Some starts i start e) in
        subst (BoardRule L At words homes (fresh starts ∷ []) start i) (ap tally_of (sym e))
        (board_at words homes (fresh starts ∷ []) start i shown lies
        (begins meaning sent state_after rests start
        (all_at (λ job. (meaning job).unsent ≡ []) starts i start clean e))
        (all_at (λ job. L job < 18446744073709551616) starts i start fit e) (L start == 0) refl);
    each_view = λ seat v e. view_at seat v e;
  }
    where
      view_at :
          (seat : ℕ) (v : View J) → get_elem? (fresh starts ∷ []) seat ≡ some v →
          ViewRule L At starts (λ i. tally_of (get_elem? starts i)) seat v
      view_at zero v e =
          subst (ViewRule L At starts (λ i. tally_of (get_elem? starts i)) 0)
          (some-injective (fresh starts) v e) record {
            same = λ _. refl;
            claimed = λ job h. let bad : None ≡ Some job = h in cc;
          }
      view_at (suc seat) v e = absurd (some-ne-none v (sym e))
