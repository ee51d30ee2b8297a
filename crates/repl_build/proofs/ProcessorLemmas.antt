-- The names and numbers of the processors.
use Rattle.std.proofs.Common.{◌≡◌, ◌∙◌, ℕ, ◌+◌, ◌<◌, Bool, true, false, not, ◌||◌, refl, sym, ap, List, [], ◌∷◌, ◌++◌}
use Rattle.std.proofs.Common.{Option, None, Some, arith, cond, suc, nat_lt, length, map, filter, slice_get, position}
use Rattle.std.proofs.Common.{take, drop, get_or, option_map}
use Rattle.std.proofs.lemmas.Bool.Decides.{nat_tests}
use Rattle.std.proofs.lemmas.List.{drop_more, take-append-drop}
use Rattle.std.proofs.lemmas.List.Quantifiers.{position-Some}
use Rattle.std.proofs.lemmas.Slice.Eq.{bytes_eq-Decides}
use Rattle.std.specs.List.{list_any, position_or_len}
use Rattle.std.specs.Str.{bytes_eq}
use Rattle.std.proofs.lemmas.Bool.{and_parts}
use Rattle.sys_bus.specs.declared.plan.Named.{Named}
use Rattle.sys_bus.specs.Name.{is_processor, processors}
use Rattle.repl_build.specs.declared.merge.Peripheral.{Peripheral}
use Rattle.repl_build.specs.declared.types.PeripheralType.{PeripheralType}
use Rattle.repl_build.specs.declared.types.PeripheralType.TheVariants.{Cpu}
use Rattle.repl_build.specs.Counts.{count_of}
use Rattle.repl_build.specs.Numbers.{what_of}
use Rattle.repl_build.specs.Plan.{each, name_by, name_of}
use Rattle.repl_build.specs.Processors.{cpus_of, hart_of, is_cpu}
use Rattle.repl_build.specs.References.{names_a}
use Rattle.repl_build.specs.Types.{is_type}
use Rattle.repl_build.proofs.ListLemmas.{count_cons}
use Rattle.repl_build.proofs.TypeLemmas.{is_type_same}

pub cpus_count : (all : List Peripheral) → length (cpus_of all) ≡ count_of all Cpu
cpus_count [] = refl
cpus_count (p ∷ ps) =
    let rest = cpus_count ps in
    let sum : count_of (p ∷ ps) Cpu ≡ cond {A = ℕ} (is_type Cpu p.kind) 1 0 + count_of ps Cpu =
    count_cons (λ q. is_type Cpu q.kind) p ps in
    elim (is_type Cpu p.kind) as (λ b. count_of (p ∷ ps) Cpu ≡ cond {A = ℕ} b 1 0 + count_of ps Cpu →
    length (map (λ q. q.name) (cond b (p ∷ filter (λ q. is_type Cpu q.kind) ps) (filter
    (λ q. is_type Cpu q.kind) ps)))
    ≡ count_of (p ∷ ps) Cpu) [
      | true ↦ λ sum. omega (arith, sum, rest)
      | false ↦ λ sum. omega (arith, sum, rest)
    ] sum

-- the processor with the number of processors before it
pub cpu_at :
    (before : List Peripheral) (p : Peripheral) (ps : List Peripheral) → is_type Cpu p.kind ≡ true →
    slice_get (cpus_of (before ++ p ∷ ps)) (count_of before Cpu) ≡ Some p.name
cpu_at [] p ps is = rw is refl
cpu_at (q ∷ qs) p ps is =
    let rest = cpu_at qs p ps is in
    let sum : count_of (q ∷ qs) Cpu ≡ cond {A = ℕ} (is_type Cpu q.kind) 1 0 + count_of qs Cpu =
    count_cons (λ r. is_type Cpu r.kind) q qs in
    elim (is_type Cpu q.kind) as (λ b. count_of (q ∷ qs) Cpu ≡ cond {A = ℕ} b 1 0 + count_of qs Cpu →
    slice_get (map (λ r. r.name) (cond b (q ∷ filter (λ r. is_type Cpu r.kind) (qs ++ p ∷ ps))
    (filter (λ r. is_type Cpu r.kind) (qs ++ p ∷ ps)))) (count_of (q ∷ qs) Cpu) ≡ Some p.name) [
      | true ↦ λ sum.
          let next : count_of (q ∷ qs) Cpu ≡ suc (count_of qs Cpu) = omega (arith, sum) in
          rw next rest
      | false ↦ λ sum.
          let same : count_of (q ∷ qs) Cpu ≡ count_of qs Cpu = omega (arith, sum) in
          rw same rest
    ] sum

-- ---- among the names of a plan

processors-append : (xs ys : List Named) → processors (xs ++ ys) ≡ processors xs ++ processors ys
processors-append [] ys = refl
processors-append (x ∷ xs) ys =
    let rest = processors-append xs ys in
    elim (is_processor x.what) as (λ b.
    map (λ n. n.name) (cond b (x ∷ filter (λ n. is_processor n.what) (xs ++ ys))
    (filter (λ n. is_processor n.what) (xs ++ ys)))
    ≡ map (λ n. n.name) (cond b (x ∷ filter (λ n. is_processor n.what) xs) (filter (λ n. is_processor n.what) xs))
    ++ processors ys) [
      | true ↦ ap (λ names. x.name ∷ names) rest
      | false ↦ rest
    ]

processor_one : (t : Option PeripheralType) (name : List ℕ) (before : List Peripheral) →
    processors (name_by name (what_of before t)) ≡ cond {A = List (List ℕ)} (is_type Cpu t) (name ∷ []) []
processor_one None name before = refl
processor_one (Some Cpu) name before = refl
processor_one _ name before = refl

-- the names of the processors, one by one
pub cpus_cons : (p : Peripheral) (ps : List Peripheral) →
    cpus_of (p ∷ ps) ≡ cond {A = List (List ℕ)} (is_type Cpu p.kind) (p.name ∷ []) [] ++ cpus_of ps
cpus_cons p ps =
    elim (is_type Cpu p.kind) as (λ b.
    map (λ q. q.name) (cond b (p ∷ filter (λ q. is_type Cpu q.kind) ps) (filter (λ q. is_type Cpu q.kind) ps))
    ≡ cond {A = List (List ℕ)} b (p.name ∷ []) [] ++ cpus_of ps) [ true ↦ refl | false ↦ refl ]

pub cpus_named : (before xs : List Peripheral) → cpus_of xs ≡ processors (each name_of before xs)
cpus_named before [] = refl
cpus_named before (p ∷ ps) =
    cpus_cons p ps
    ∙ (rw (← processor_one p.kind p.name before, cpus_named (before ++ p ∷ []) ps)
    (sym (processors-append (name_of before p) (each name_of (before ++ p ∷ []) ps))))

-- ---- numbers

pub record IsHart (all : List Peripheral) (name : List ℕ) (hart : ℕ) : Type 0 where
  pub before : List Peripheral
  pub p : Peripheral
  pub ps : List Peripheral
  pub whole : all ≡ before ++ p ∷ ps
  pub kind : p.kind ≡ Some Cpu
  pub called : p.name ≡ name
  pub number : hart ≡ count_of before Cpu

same_number : (m n : ℕ) → (let o : Option ℕ = Some m in o) ≡ Some n → n ≡ m
same_number m n is = cc

-- a number is that of a processor of the name
pub hart_found : (all : List Peripheral) (name : List ℕ) (hart : ℕ) → hart_of all name ≡ Some hart →
    IsHart all name hart
hart_found [] name hart is = absurd (cc)
hart_found (q ∷ qs) name hart is = by_place (position (is_cpu name) (q ∷ qs)) refl is
  where
    by_place : (o : Option ℕ) → position (is_cpu name) (q ∷ qs) ≡ o →
        option_map (λ i. count_of (take i (q ∷ qs)) Cpu) o ≡ Some hart → IsHart (q ∷ qs) name hart
    by_place None found is = absurd (cc)
    by_place (Some i) found is =
        let all = q ∷ qs in
        let there = position-Some (is_cpu name) all i q found in
        let p = get_or all i q in
        let parts = and_parts (is_type Cpu p.kind) (bytes_eq p.name name) there.1 in
        record {
          before = take i all;
          p = p;
          ps = drop (i + 1) all;
          whole = sym (take-append-drop i all) ∙ ap (λ more. take i all ++ more) (drop_more all i q there.0);
          kind = is_type_same Cpu p.kind parts.0;
          called = (bytes_eq-Decides p.name name).0 parts.1;
          number = same_number _ _ is;
        }

before_end : {X : Type 0} (test : X → Bool) (xs : List X) → list_any test xs ≡ true →
    position_or_len test xs < length xs
before_end test [] there = absurd (cc)
before_end test (x ∷ xs) there =
    elim (test x) as (λ b. (b || list_any test xs) ≡ true →
    cond {A = ℕ} (not b) (1 + position_or_len test xs) 0 < suc (length xs)) [
      | true ↦ λ there. omega arith
      | false ↦ λ there. let rest = before_end test xs there in omega (arith, rest)
    ] there

-- a name without a number is that of no processor
pub hart_absent : (all : List Peripheral) (name : List ℕ) → hart_of all name ≡ None → names_a Cpu all name ≡ false
hart_absent all name none =
    elim (names_a Cpu all name) as (λ b. names_a Cpu all name ≡ b → b ≡ false) [
      | true ↦ λ there.
          let inside = before_end (is_cpu name) all there in
          let low : nat_lt (position_or_len (is_cpu name) all) (length all) ≡ true = grind (arith, nat_tests) in
          let found : position (is_cpu name) all ≡ Some (position_or_len (is_cpu name) all) =
          ap (λ (b : Bool). cond b (Some (position_or_len (is_cpu name) all)) None) low in
          absurd (some_none _ (sym (ap (option_map (λ i. count_of (take i all) Cpu)) found) ∙ none))
      | false ↦ λ there. refl
    ] refl
  where
    some_none : (n : ℕ) → (let o : Option ℕ = Some n in o) ≡ None → ⊥
    some_none n is = cc
