-- The first source of the greatest priority: that there is one, and what it says of the output and of a claim.
use Rattle.std.proofs.Common.{◌≡◌, ℕ, zero, suc, ◌+◌, ◌<◌, ◌≤◌, ◌&&◌, ◌||◌, not, nat_lt, nat_le, Bool, true, false}
use Rattle.std.proofs.Common.{List, inl, inr, refl, ap, sym, ◌∙◌, arith, slice_index}
use Rattle.std.proofs.lemmas.Bool.{cases_lt, cases_Bool, and_parts, both_ways, leb-true}
use Rattle.std.proofs.lemmas.Bool.Decides.{nat_tests}
use Rattle.std.specs.List.{list_any}
use Rattle.plic.specs.declared.state.PlicState.{PlicState}
use Rattle.plic.specs.Sources.{has, sources}
use Rattle.plic.specs.Claim.{is_ready, interrupts, is_claimable, is_highest, priority, threshold, claim, output}
use Rattle.plic.specs.Laws.{IsChosen, ClaimsTheChosen, ClaimsWhatIsThere, OutputsApart}
use Rattle.plic.specs.Inner.Best.{IsBest}
use Rattle.plic.proofs.SearchLemmas.{find-none, find-first, list_any-none, list_any-found, list_all-each}
use Rattle.plic.proofs.SearchLemmas.{list_all-fails}

-- a number is above another and something holds, or not
and_above : (b : Bool) (m n : ℕ) → b ≡ true → m < n → (b && nat_lt m n) ≡ true
and_above b m n t h = rw t (grind (arith, nat_tests))

and_not_above : (b : Bool) (m n : ℕ) → (b ≡ true → n ≤ m) → (b && nat_lt m n) ≡ false
and_not_above true m n f = let h : n ≤ m = f refl in grind (arith, nat_tests)
and_not_above false m n f = refl

-- a number is at most another where something holds, or not
at_most : (b : Bool) (m n : ℕ) → (b ≡ true → m ≤ n) → (not b || nat_le m n) ≡ true
at_most true m n f = let h : m ≤ n = f refl in grind (arith, nat_tests)
at_most false m n f = refl

not_at_most : (b : Bool) (m n : ℕ) → b ≡ true → n < m → (not b || nat_le m n) ≡ false
not_at_most b m n t h = rw t (grind (arith, nat_tests))

-- no source so far
pub best_none : (p : PlicState) (context : ℕ) → IsBest p context 1 0 0
best_none p context = record {
  greatest = λ s low high r. absurd (omega arith);
  first = λ s low high r. absurd (omega arith);
  none = λ e. refl;
  at_least = λ h. absurd (omega arith);
  below = λ h. absurd (omega arith);
  ready = λ h. absurd (omega arith);
  rank = λ h. absurd (omega arith);
}

-- the best so far and a further source that is better
pub best_taken : (p : PlicState) (context bound source highest : ℕ) → 1 ≤ bound →
    IsBest p context bound source highest → is_ready p context bound ≡ true → highest < priority p bound →
    IsBest p context (bound + 1) bound (priority p bound)
best_taken p context bound source highest low best ready above = record {
  greatest = λ s from h r. elim (cases_lt s bound) [
    | inl below ↦ let le : priority p s ≤ highest = best.greatest s from below r in omega arith
    | inr past ↦ let same : s ≡ bound = omega arith in rw same (omega arith)
  ];
  first = λ s from h r. let le : priority p s ≤ highest = best.greatest s from h r in omega arith;
  none = λ e. absurd (omega arith);
  at_least = λ h. low;
  below = λ h. omega arith;
  ready = λ h. ready;
  rank = λ h. refl;
}

-- and one that is not
pub best_kept : (p : PlicState) (context bound source highest : ℕ) → IsBest p context bound source highest →
    (is_ready p context bound ≡ true → priority p bound ≤ highest) → IsBest p context (bound + 1) source highest
best_kept p context bound source highest best no_better = record {
  greatest = λ s from h r. elim (cases_lt s bound) [
    | inl below ↦ best.greatest s from below r
    | inr past ↦
        let same : s ≡ bound = omega arith in
        rw same (no_better (rw same at r))
  ];
  first = best.first;
  none = best.none;
  at_least = best.at_least;
  below = λ h. let b : source < bound = best.below h in omega arith;
  ready = best.ready;
  rank = best.rank;
}

-- there is a best
record Best (p : PlicState) (context bound : ℕ) : Type 0 where
  source : ℕ
  highest : ℕ
  best : IsBest p context bound source highest

best_of : (p : PlicState) (context n : ℕ) → Best p context (n + 1)
best_of p context zero = record { source = 0; highest = 0; best = best_none p context }
best_of p context (suc n) =
    let so_far : Best p context (n + 1) = best_of p context n in
    let next : suc n + 1 ≡ n + 1 + 1 = omega arith in
    rw next (elim (cases_Bool (is_ready p context (n + 1))) [
      | inl ready ↦ elim (cases_lt so_far.highest (priority p (n + 1))) [
        | inl above ↦ record {
          source = n + 1;
          highest = priority p (n + 1);
          best = best_taken p context (n + 1) so_far.source so_far.highest (omega arith) so_far.best ready above;
        }
        | inr not_above ↦ record {
          source = so_far.source;
          highest = so_far.highest;
          best = best_kept p context (n + 1) so_far.source so_far.highest so_far.best (λ r. not_above);
        }
      ]
      | inr not_ready ↦ record {
        source = so_far.source;
        highest = so_far.highest;
        best = best_kept p context (n + 1) so_far.source so_far.highest so_far.best
            (λ r. absurd (both_ways _ not_ready r));
      }
    ])

-- the output, by the best
pub output-best : (n : ℕ) (p : PlicState) (context source highest : ℕ) → IsBest p context (n + 1) source highest →
    output n p context ≡ nat_lt (threshold p context) highest
unfolding output
output-best n p context source highest best = elim (cases_lt (threshold p context) highest) [
  | inl above ↦
      let e : nat_lt (threshold p context) highest ≡ true = grind (arith, nat_tests) in
      let positive : 0 < highest = omega arith in
      let same : priority p source ≡ highest = best.rank positive in
      let below : source < n + 1 = best.below positive in
      list_any-found (interrupts p context) 1 n source (best.at_least positive) (omega arith)
      (and_above (is_ready p context source) (threshold p context) (priority p source) (best.ready positive)
      (omega arith))
      ∙ sym e
  | inr not_above ↦
      let e : nat_lt (threshold p context) highest ≡ false = grind (arith, nat_tests) in
      list_any-none (interrupts p context) 1 n
      (λ s low high. and_not_above (is_ready p context s) (threshold p context) (priority p s)
      (λ r. let le : priority p s ≤ highest = best.greatest s low (omega arith) r in omega arith))
      ∙ sym e
]

-- where no source that is ready has a priority, nothing is claimed
claim-none : (n : ℕ) (p : PlicState) (context source : ℕ) → IsBest p context (n + 1) source 0 → claim n p context ≡ 0
unfolding claim
claim-none n p context source best =
    let none : (s : ℕ) → 1 ≤ s → s < 1 + n → is_claimable p context s ≡ false =
    λ s low high. and_not_above (is_ready p context s) 0 (priority p s) (best.greatest s low (omega arith)) in
    rw (find-none (λ s. is_claimable p context s && is_highest n p context s) 1 n
    (λ s low high. rw (none s low high) refl))
    refl

-- the best is of the greatest priority, and none before it is
highest-best : (n : ℕ) (p : PlicState) (context source highest : ℕ) → IsBest p context (n + 1) source highest →
    0 < highest → is_highest n p context source ≡ true
highest-best n p context source highest best positive =
    let same : priority p source ≡ highest = best.rank positive in
    list_all-each (λ s. not (is_claimable p context s) || nat_le (priority p s) (priority p source)) 1 n
    (λ s low high. at_most (is_claimable p context s) (priority p s) (priority p source)
    (λ r. let le : priority p s ≤ highest = best.greatest s low (omega arith) (and_parts _ _ r).0 in omega arith))

not_highest-before : (n : ℕ) (p : PlicState) (context source highest s : ℕ) → IsBest p context (n + 1) source highest →
    0 < highest → 1 ≤ s → s < source → is_claimable p context s ≡ true → is_highest n p context s ≡ false
not_highest-before n p context source highest s best positive low h r =
    let same : priority p source ≡ highest = best.rank positive in
    let below : source < n + 1 = best.below positive in
    let less : priority p s < highest = best.first s low h (and_parts _ _ r).0 in
    list_all-fails (λ t. not (is_claimable p context t) || nat_le (priority p t) (priority p s)) 1 n source
    (best.at_least positive) (omega arith)
    (not_at_most (is_claimable p context source) (priority p source) (priority p s)
    (and_above (is_ready p context source) 0 (priority p source) (best.ready positive) (omega arith))
    (omega arith))

-- the best is what is claimed
pub claim-best : (n : ℕ) (p : PlicState) (context source highest : ℕ) → IsBest p context (n + 1) source highest →
    claim n p context ≡ source
unfolding claim
claim-best n p context source zero best = claim-none n p context source best ∙ sym (best.none refl)
claim-best n p context source (suc h) best =
    let positive : 0 < suc h = omega arith in
    let same : priority p source ≡ suc h = best.rank positive in
    let below : source < n + 1 = best.below positive in
    let claimable : is_claimable p context source ≡ true =
    and_above (is_ready p context source) 0 (priority p source) (best.ready positive) (omega arith) in
    rw (find-first (λ s. is_claimable p context s && is_highest n p context s) 1 n source (best.at_least positive)
    (omega arith)
    (rw claimable (highest-best n p context source (suc h) best positive))
    (λ s low before. elim (cases_Bool (is_claimable p context s)) [
      | inl can ↦ rw can (not_highest-before n p context source (suc h) s best positive low before can)
      | inr cannot ↦ rw cannot refl
    ]))
    refl

-- what is claimed is the one to claim
chosen-best : (n : ℕ) (p : PlicState) (context source highest : ℕ) → IsBest p context (n + 1) source highest →
    0 < highest → IsChosen n p context source
chosen-best n p context source highest best positive =
    let same : priority p source ≡ highest = best.rank positive in
    let low : 1 ≤ source = best.at_least positive in
    let below : source < n + 1 = best.below positive in
    record {
      there = grind (arith, nat_tests);
      pending = (and_parts _ _ (best.ready positive)).0;
      enabled = (and_parts _ _ (best.ready positive)).1;
      above_zero = omega arith;
      greatest = λ s there can.
          let within : (nat_le 1 s ≡ true) × (nat_le s n ≡ true) = and_parts _ _ there in
          let from : 1 ≤ s = leb-true 1 s within.0 in
          let to : s ≤ n = leb-true s n within.1 in
          let le : priority p s ≤ highest = best.greatest s from (omega arith) (and_parts _ _ can).0 in
          omega arith;
      least = λ s there can level.
          let within : (nat_le 1 s ≡ true) × (nat_le s n ≡ true) = and_parts _ _ there in
          let from : 1 ≤ s = leb-true 1 s within.0 in
          elim (cases_lt s source) [
            | inl before ↦
                let less : priority p s < highest = best.first s from before (and_parts _ _ can).0 in
                omega arith
            | inr after ↦ after
          ];
    }

pub claim_is_chosen : ClaimsTheChosen
claim_is_chosen n p context some =
    let b : Best p context (n + 1) = best_of p context n in
    let same : claim n p context ≡ b.source = claim-best n p context b.source b.highest b.best in
    rw same (elim (cases_lt 0 b.highest) [
      | inl positive ↦ chosen-best n p context b.source b.highest b.best positive
      | inr none ↦
          let zero : b.source ≡ 0 = b.best.none (omega arith) in
          absurd (omega arith)
    ])

-- where 0 is claimed there is none
pub none_is_claimable : ClaimsWhatIsThere
none_is_claimable n p context source nothing there =
    let b : Best p context (n + 1) = best_of p context n in
    let same : claim n p context ≡ b.source = claim-best n p context b.source b.highest b.best in
    let within : (nat_le 1 source ≡ true) × (nat_le source n ≡ true) = and_parts _ _ there in
    let from : 1 ≤ source = leb-true 1 source within.0 in
    let to : source ≤ n = leb-true source n within.1 in
    and_not_above (is_ready p context source) 0 (priority p source) (λ ready.
    let le : priority p source ≤ b.highest = b.best.greatest source from (omega arith) ready in
    elim (cases_lt 0 b.highest) [
      | inl positive ↦
          let low : 1 ≤ b.source = b.best.at_least positive in
          omega arith
      | inr none ↦ omega arith
    ])

-- the output is by a context's own enables and threshold
output_by : ℕ → ℕ → ℕ → List ℕ → ℕ → Bool
output_by n pending enabled priorities threshold =
    list_any (λ s. has pending s && has enabled s && nat_lt threshold (slice_index priorities s)) (sources n)

pub output_is_own : OutputsApart
unfolding output output_by
output_is_own n p q context pending priorities enabled level =
    ap (λ (x : ℕ). output_by n x (slice_index p.enables context) p.priorities (threshold p context)) pending
    ∙ ap (λ (x : ℕ). output_by n q.pending x p.priorities (threshold p context)) enabled
    ∙ ap (λ (x : List ℕ). output_by n q.pending (slice_index q.enables context) x (threshold p context)) priorities
    ∙ ap (λ (x : ℕ). output_by n q.pending (slice_index q.enables context) q.priorities x) level

-- what the best says of a claim and of the output
pub ruleset best_lemmas = (output-best, claim-best)
