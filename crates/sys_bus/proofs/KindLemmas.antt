-- Devices of the three kinds.
use Rattle.std.proofs.Common.{◌≡◌, ◌+◌, ◌≤◌, List, [], ◌∷◌, length, if◌then◌else◌, IsTrue, refl, arith}
use Rattle.std.proofs.lemmas.Bool.Decides.{nat_tests}
use Rattle.dev_core.specs.declared.kind.Kind.{Kind}
use Rattle.dev_core.specs.declared.kind.Kind.TheVariants.{Uart, Can, Finisher}
use Rattle.dev_core.specs.Kind.{is_kind}
use Rattle.sys_bus.specs.Limits.{count_of, are_few_devices}
use Rattle.sys_bus.proofs.CountLemmas.{count_by-cons}

-- a kind more
count_of-cons : (other kind : Kind) (kinds : List Kind) →
    count_of (kind ∷ kinds) other ≡ (if is_kind other kind then 1 else 0) + count_of kinds other
count_of-cons other kind kinds = count_by-cons (is_kind other) kind kinds

-- each device is of one of them
length-by_kind : (kinds : List Kind) → length kinds ≡ count_of kinds Uart + count_of kinds Can + count_of kinds Finisher
length-by_kind [] = refl
length-by_kind (Uart ∷ kinds) =
    let rest = length-by_kind kinds in
    omega (arith, count_of-cons Uart Uart kinds, count_of-cons Can Uart kinds, count_of-cons Finisher Uart kinds)
length-by_kind (Can ∷ kinds) =
    let rest = length-by_kind kinds in
    omega (arith, count_of-cons Uart Can kinds, count_of-cons Can Can kinds, count_of-cons Finisher Can kinds)
length-by_kind (Finisher ∷ kinds) =
    let rest = length-by_kind kinds in
    omega (
      arith,
      count_of-cons Uart Finisher kinds,
      count_of-cons Can Finisher kinds,
      count_of-cons Finisher Finisher kinds,
    )

pub few_devices : (kinds : List Kind) → IsTrue (are_few_devices kinds) → length kinds ≤ 9
few_devices kinds few = let all = length-by_kind kinds in grind (arith, nat_tests)
