-- Answers to whether something holds, and how they are put together.
use Rattle.std.proofs.Common.{◌≡◌, ◌<◌, ◌≤◌, inl, inr, ℕ, zero, suc, List, [], ◌∷◌, Bool, true, false, ◌&&◌, refl}
use Rattle.std.proofs.Common.{subst, sym, ap, arith}
use Rattle.std.specs.Prelude.{Decides, Option, None, Some, IsTrue, nat_lt, nat_le, ◌==◌}
use Rattle.std.specs.Bool.{beq}
use Rattle.std.specs.Cmp.{booleans_Decides, unsigned_Decides}
use Rattle.std.specs.Cmp.Lexicographic.{pointwise, pointwise_decides}
use Rattle.std.specs.List.{All, AllByRecursion, IsDistinct}
use Rattle.std.specs.Option.{ForSome}
use Rattle.std.proofs.lemmas.Bool.{and_from, and_parts, cases_eq, cases_lt, false≢true, leb-true, le-leb, ltb-true}
use Rattle.std.proofs.lemmas.Bool.{lt-ltb}
use Rattle.std.proofs.lemmas.List.Elements.{All-cons, All-head, All-nil, All-tail}
use Rattle.std.proofs.lemmas.Option.{none-some, same_Some}

-- an answer to whether P holds
pub record Decided (P : Type 0) : Type 0 where
  pub answer : Bool
  pub decides : Decides answer P

-- ---- one answer of another

pub holds : {P : Type 0} → P → Decided P
holds so = record { answer = true; decides = (λ e. so, λ p. refl) }

pub fails : {P : Type 0} → (P → ⊥) → Decided P
fails never = record { answer = false; decides = (λ e. absurd (false≢true e), λ p. absurd (never p)) }

-- what is said otherwise
pub told_by : {P Q : Type 0} → Decided P → (P → Q) → (Q → P) → Decided Q
told_by d to from = record { answer = d.answer; decides = (λ e. to (d.decides.0 e), λ q. d.decides.1 (from q)) }

pub both : {P Q : Type 0} → Decided P → Decided Q → Decided (P × Q)
both d e = record {
  answer = d.answer && e.answer;
  decides = (
    λ t. let parts = and_parts d.answer e.answer t in (d.decides.0 parts.0, e.decides.0 parts.1),
    λ (p, q). and_from d.answer e.answer (d.decides.1 p) (e.decides.1 q),
  );
}

pub three : {P Q R : Type 0} → Decided P → Decided Q → Decided R → Decided (P × Q × R)
three c d e = told_by (both c (both d e)) (λ (p, (q, r)). (p, q, r)) (λ (p, q, r). (p, (q, r)))

pub four : {P Q R S : Type 0} → Decided P → Decided Q → Decided R → Decided S → Decided (P × Q × R × S)
four b c d e = told_by (both b (three c d e)) (λ (p, (q, r, s)). (p, q, r, s)) (λ (p, q, r, s). (p, (q, r, s)))

pub five : {P Q R S T : Type 0} → Decided P → Decided Q → Decided R → Decided S → Decided T →
    Decided (P × Q × R × S × T)
five a b c d e =
    told_by (both a (four b c d e)) (λ (p, (q, r, s, t)). (p, q, r, s, t)) (λ (p, q, r, s, t). (p, (q, r, s, t)))

-- where a test passes
pub where_so : {P : Type 0} (test : Bool) → Decided P → Decided (test ≡ true → P)
where_so true d = told_by d (λ p e. p) (λ f. f refl)
where_so false d = holds (λ e. absurd (false≢true e))

-- ---- tests

pub tested : (test : Bool) → Decided (IsTrue test)
tested test = record { answer = test; decides = (λ e. e, λ e. e) }

pub at_most : (a b : ℕ) → Decided (a ≤ b)
at_most a b = record { answer = nat_le a b; decides = (leb-true a b, le-leb a b) }

pub below : (a b : ℕ) → Decided (a < b)
below a b = record { answer = nat_lt a b; decides = (ltb-true a b, lt-ltb a b) }

pub same_number : (a b : ℕ) → Decided (a ≡ b)
same_number a b = record { answer = a == b; decides = unsigned_Decides a b }

pub same_flag : (a b : Bool) → Decided (a ≡ b)
same_flag a b = record { answer = beq a b; decides = booleans_Decides a b }

pub same_list : {A : Type 0} → ((a b : A) → Decided (a ≡ b)) → (xs ys : List A) → Decided (xs ≡ ys)
same_list same xs ys = record {
  answer = pointwise (λ a b. (same a b).answer) xs ys;
  decides = pointwise_decides (λ a b. (same a b).decides) xs ys;
}

-- ---- options and lists

-- an option has this value
pub has_value : {A : Type 0} → ((a b : A) → Decided (a ≡ b)) → (o : Option A) (x : A) → Decided (o ≡ Some x)
has_value same None x = fails (λ e. none-some x e)
has_value same (Some a) x = told_by (same a x) (λ e. ap Some e) (λ e. same_Some a x e)

pub in_some : {A : Type 0} {P : A → Type 0} → ((x : A) → Decided (P x)) → (o : Option A) → Decided (ForSome o P)
in_some d None = holds (λ x is. absurd (none-some x is))
in_some {P = P} d (Some x) = told_by (d x) (λ p y is. subst P (same_Some x y is) p) (λ all. all x refl)

pub each : {A : Type 0} {P : A → Type 0} → ((x : A) → Decided (P x)) → (xs : List A) → Decided (All P xs)
each {P = P} d [] = holds (All-nil P)
each {P = P} d (x ∷ xs) =
    told_by (both (d x) (each d xs)) (λ (first, others). All-cons P x xs first others)
    (λ all. (All-head P x xs all, All-tail P x xs all))

each_in_turn : {A : Type 0} {P : A → Type 0} → ((x : A) → Decided (P x)) → (xs : List A) →
    Decided (AllByRecursion P xs)
each_in_turn d [] = holds tt
each_in_turn d (x ∷ xs) = both (d x) (each_in_turn d xs)

pub distinct : {A : Type 0} (eq : A → A → Bool) → (xs : List A) → Decided (IsDistinct eq xs)
unfolding IsDistinct
distinct eq [] = holds tt
distinct eq (x ∷ xs) = both (each_in_turn (λ y. same_flag (eq x y) false) xs) (distinct eq xs)

-- ---- numbers

below_or_last : {P : ℕ → Type 0} (n : ℕ) → ((k : ℕ) → k < n → P k) → P n → (k : ℕ) → k < suc n → P k
below_or_last {P} n all last k within = elim (cases_eq k n) [
  | inl is ↦ subst P (sym is) last
  | inr other ↦ all k (omega (arith, within, other))
]

pub each_below : {P : ℕ → Type 0} → ((k : ℕ) → Decided (P k)) → (n : ℕ) → Decided ((k : ℕ) → k < n → P k)
each_below d zero = holds (λ k within. absurd (omega (arith, within)))
each_below {P} d (suc n) =
    told_by (both (each_below d n) (d n)) (λ (all, last). below_or_last {P = P} n all last)
    (λ all. (λ k within. all k (omega (arith, within)), all n (omega arith)))

-- of all numbers, where what is said is void of those from n on
pub each_number : {P : ℕ → Type 0} → ((k : ℕ) → Decided (P k)) → (n : ℕ) → ((k : ℕ) → n ≤ k → P k) →
    Decided ((k : ℕ) → P k)
each_number {P} d n void =
    told_by (each_below d n) (λ all k. elim (cases_lt k n) [ inl within ↦ all k within | inr past ↦ void k past ])
    (λ all k within. all k)
