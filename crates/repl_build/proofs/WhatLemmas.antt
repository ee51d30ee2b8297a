-- What a peripheral is on the board, backwards.
use Rattle.std.proofs.Common.{◌≡◌, ℕ, ◌+◌, true, false, refl, List, [], ◌∷◌, ◌++◌, Option, Some, arith}
use Rattle.std.proofs.Common.{slice_get, map, filter, cond, suc, if◌then◌else◌}
use Rattle.std.specs.Prelude.{slice_index}
use Rattle.std.specs.List.{cons_option}
use Rattle.dev_core.specs.declared.kind.Kind.{Kind}
use Rattle.sys_bus.specs.declared.plan.NamedWhat.{NamedWhat}
use Rattle.sys_bus.specs.declared.plan.NamedWhat.TheVariants as what
use Rattle.sys_bus.specs.declared.region.RegionKind.{RegionKind}
use Rattle.repl_build.specs.declared.merge.Peripheral.{Peripheral}
use Rattle.repl_build.specs.declared.types.PeripheralType.{PeripheralType}
use Rattle.repl_build.specs.declared.types.PeripheralType.TheVariants.{Memory, Device}
use Rattle.repl_build.specs.Counts.{count_of}
use Rattle.repl_build.specs.Numbers.{devices_of, is_device}
use Rattle.repl_build.specs.Places.{size_of}
use Rattle.repl_build.specs.Plan.{kind_by, kinds_of, memories_of}
use Rattle.repl_build.specs.Types.{is_type}
use Rattle.repl_build.proofs.ListLemmas.{count_cons}

pub same_part_of : (a b : RegionKind) → (let x : Option NamedWhat = Some (what.Part a) in x) ≡ Some (what.Part b) →
    a ≡ b
same_part_of a b is = cc

-- the memory with the number of memories before it
pub memory_at :
    (before : List Peripheral) (p : Peripheral) (ps : List Peripheral) → is_type Memory p.kind ≡ true →
    slice_index (memories_of (before ++ p ∷ ps)) (count_of before Memory) ≡ size_of p
memory_at [] p ps is = rw is refl
memory_at (q ∷ qs) p ps is =
    let rest = memory_at qs p ps is in
    let sum : count_of (q ∷ qs) Memory ≡ (if is_type Memory q.kind then 1 else 0) + count_of qs Memory =
    count_cons (λ r. is_type Memory r.kind) q qs in
    elim (is_type Memory q.kind) as (λ b. count_of (q ∷ qs) Memory ≡ (if b then 1 else 0) + count_of qs Memory →
    slice_index (map size_of (cond b (q ∷ filter (λ r. is_type Memory r.kind) (qs ++ p ∷ ps))
    (filter (λ r. is_type Memory r.kind) (qs ++ p ∷ ps)))) (count_of (q ∷ qs) Memory) ≡ size_of p) [
      | true ↦ λ sum.
          let next : count_of (q ∷ qs) Memory ≡ suc (count_of qs Memory) = omega (arith, sum) in
          rw next rest
      | false ↦ λ sum.
          let same : count_of (q ∷ qs) Memory ≡ count_of qs Memory = omega (arith, sum) in
          rw same rest
    ] sum

pub device_cons : (q : Peripheral) (qs : List Peripheral) →
    devices_of (q ∷ qs) ≡ (if is_device q.kind then 1 else 0) + devices_of qs
device_cons q qs = count_cons (λ r. is_device r.kind) q qs

kind_next :
    (t : Option PeripheralType) (kinds : List Kind) (n m : ℕ) (k : Option Kind) →
    n ≡ (if is_device t then 1 else 0) + m → slice_get kinds m ≡ k → slice_get (cons_option (kind_by t) kinds) n ≡ k
kind_next (Some (Device kind)) kinds n m k next is = let same : n ≡ suc m = omega (arith, next) in rw same is
kind_next _ kinds n m k next is = let same : n ≡ m = omega (arith, next) in rw same is

kind_first : (t : Option PeripheralType) (kinds : List Kind) → is_device t ≡ true →
    slice_get (cons_option (kind_by t) kinds) 0 ≡ kind_by t
kind_first (Some (Device kind)) kinds is = refl
kind_first _ kinds is = absurd (cc)

-- the device with the number of devices before it
pub kind_at :
    (before : List Peripheral) (p : Peripheral) (ps : List Peripheral) → is_device p.kind ≡ true →
    slice_get (kinds_of (before ++ p ∷ ps)) (devices_of before) ≡ kind_by p.kind
kind_at [] p ps is = kind_first p.kind (kinds_of ps) is
kind_at (q ∷ qs) p ps is =
    kind_next q.kind (kinds_of (qs ++ p ∷ ps)) (devices_of (q ∷ qs)) (devices_of qs) (kind_by p.kind)
    (device_cons q qs)
    (kind_at qs p ps is)
