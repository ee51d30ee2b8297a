-- What is taken off a bench that is closed.
use Rattle.std.proofs.Common.{◌≡◌, ℕ, ◌+◌, ◌*◌, ◌/◌, ◌%◌, ◌<◌, ◌≤◌, ◌≢◌, inl, inr, Bool, false, List, [], ◌∷◌}
use Rattle.std.proofs.Common.{◌++◌, length, get_or, set, sym, ap, ◌∙◌, subst, arith, eq-eqb, ne_eqb}
use Rattle.std.proofs.Common.{get_or-set_other, get_or-set_same, Option, Some, None, if◌then◌else◌}
use mathlib.Core.Option.{some, some-injective}
use mathlib.Core.Logic.{dite}
use native.Mathlib.Decide.{ℕ_discrete}
use lib.ListN.{get_elem?}
use Rattle.std.specs.Slots.Ownership.{Filled}
use Rattle.atomic_table.proofs.Lists.{at_longer, at_last}
use Rattle.atomic_table.specs.Table.{Final}
use Rattle.floor_run.specs.declared.view.View.{View}
use Rattle.floor_run.specs.Rule.{Whereabouts, home, out, done, word_of, Homes, InPlace, Rule}
use Rattle.floor_run.specs.Close.{ClosedAs, Closing}
use Rattle.floor_run.specs.Inner.Close.{kept, Takes}
use Rattle.floor_run.proofs.StepLemmas.{there, below}
use Rattle.floor_run.proofs.OpenLemmas.{got}

-- one board more is taken off
pub takes_more :
    {J : Type 0} → (words : List ℕ) (cells : List (Option J)) (i word : ℕ) (jobs jobs' : List (Option J))
    (x y : Option J) → length jobs ≡ i → Takes words cells i jobs → get_elem? cells i ≡ some x
    → get_elem? words (i + 1) ≡ some word → y ≡ kept word x → jobs' ≡ jobs ++ y ∷ [] → Takes words cells (i + 1) jobs'
takes_more words cells i word jobs jobs' x y long so_far at at_word is now k z near there =
    ap (λ l. get_elem? l k) now ∙ dite (ℕ_discrete k i)
    (λ e. let same : x ≡ z = some-injective x z (sym at ∙ (ap (get_elem? cells) (sym e) ∙ there)) in
    at_last jobs y k (long ∙ sym e) ∙
    ap some (is ∙ (λ t. kept (sym (got words (i + 1) word 0 at_word) t) (same t)) ∙
    ap (λ (n : ℕ). kept (get_or words (n + 1) 0) z) (sym e)))
    (λ n. at_longer jobs (y ∷ []) k _ (so_far k z (omega arith) there))

-- the cells behind the first i + 1 are filled
pub filled_next : (fs fs' : List Bool) (i n : ℕ) → fs' ≡ set fs i false → Filled fs i n → Filled fs' (i + 1) n
filled_next fs fs' i n e all k low high =
    ap (λ l. get_or l k false) e ∙ (get_or-set_other fs i k false false (λ h. omega arith) ∙ all k (omega arith) high)

-- and those before them are empty
pub emptied_next :
    (fs fs' : List Bool) (i : ℕ) → i < length fs → fs' ≡ set fs i false →
    ((k : ℕ) → k < i → get_or fs k false ≡ false) → (k : ℕ) → k < i + 1 → get_or fs' k false ≡ false
emptied_next fs fs' i near e all k h = ap (λ l. get_or l k false) e ∙ dite (ℕ_discrete k i)
    (λ same. ap (λ (n : ℕ). get_or (set fs i false) n false) same ∙ get_or-set_same fs i false false near)
    (λ n. get_or-set_other fs i k false false n ∙ all k (omega arith))

kept_out : {J : Type 0} → (word : ℕ) (x : Option J) → word % 4 ≡ 1 → kept word x ≡ None
kept_out word x e = ap (λ (b : Bool). if b then None else x) (eq-eqb (word % 4) 1 e)

kept_in : {J : Type 0} → (word : ℕ) (x : Option J) → word % 4 ≢ 1 → kept word x ≡ x
kept_in word x n = ap (λ (b : Bool). if b then None else x) (ne_eqb (word % 4) 1 n)

module _ {J : Type 0} (left : J → ℕ) (AfterTurns : J → ℕ → J → Type 0) where
  module _ (homes : Homes J) (views : List (View J)) (start : J) (i q word : ℕ) (cells jobs : List (Option J))
      (near : i < length cells)
      (same : (y : Option J) → get_elem? homes i ≡ some (some y) → get_elem? cells i ≡ some y)
      (taken : (x : Option J) → get_elem? cells i ≡ some x → get_elem? jobs i ≡ some (kept word x)) where
    closed_at :
        (place : Whereabouts) → word ≡ word_of q place → InPlace left AfterTurns homes views start i q place →
        (job : Option J) × (get_elem? jobs i ≡ some job) × ClosedAs left AfterTurns start word job
    closed_at home shown p =
        let quarter : word / 4 ≡ q = omega arith in
        let job : J = p.1.0 in (
          Some job,
          taken (Some job) (same (Some job) p.1.1) ∙ ap some (kept_in word (Some job) (omega arith)),
          (
            subst (λ (k : ℕ). AfterTurns start k job) (sym quarter) p.1.2,
            inl (omega arith, subst (λ (k : ℕ). 4096 * k < left start) (sym quarter) p.0),
          ),
        )
    closed_at (out seat) shown p =
        let x = there cells i near in
        let odd : word % 4 ≡ 1 = omega arith in
        (None, taken x.0 x.1 ∙ ap some (kept_out word x.0 odd), odd)
    closed_at done shown p =
        let quarter : word / 4 ≡ q = omega arith in
        let job : J = p.1.0 in (
          Some job,
          taken (Some job) (same (Some job) p.1.1) ∙ ap some (kept_in word (Some job) (omega arith)),
          (
            subst (λ (k : ℕ). AfterTurns start k job) (sym quarter) p.1.2,
            inr (omega arith, subst (λ (k : ℕ). left start ≤ 4096 * k) (sym quarter) p.0),
          ),
        )

  pub closes :
      (starts : List J) (words : List ℕ) (cells jobs : List (Option J)) →
      Final (Rule left AfterTurns starts) words cells → length jobs ≡ length cells →
      Takes words cells (length cells) jobs → Closing left AfterTurns starts jobs
  closes starts words cells jobs f long takes =
      let s = f.0 in
      let r = f.1 in
      let n : length cells ≡ length starts = sym f.3 ∙ r.roomy in (
        words,
        long ∙ n,
        λ i start e.
            let ok = r.each_board i start e in
            let near : i < length cells = omega (arith, below starts i start e) in
            closed_at s.homes s.views start i (r.tallies i).0 (get_or words (i + 1) 0) cells jobs near
            (λ y at. f.4 i y at) (λ x at. takes i x near at) (r.tallies i).1
            (ap (λ (l : List ℕ). get_or l (i + 1) 0) (sym f.2) ∙ ok.shows) ok.stands,
      )
