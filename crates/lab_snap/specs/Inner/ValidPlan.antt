-- The test of a plan that `IsValid` asks for.
use Rattle.std.proofs.Common.{◌≡◌, ℕ, zero, suc, List, [], ◌∷◌, Bool, true, ◌&&◌, length, refl}
use Rattle.std.specs.Bool.{beq}
use Rattle.std.specs.Prelude.{Decides, is_some, slice_index_or}
use Rattle.std.specs.Cmp.{booleans_Decides}
use Rattle.std.specs.Cmp.Lexicographic.{pointwise}
use Rattle.std.specs.List.{list_all}
use Rattle.std.specs.Str.{bytes_eq}
use Rattle.std.proofs.lemmas.Bool.{and_parts, and_from}
use Rattle.std.proofs.lemmas.Slice.Eq.{bytes_eq-Decides, slice_eq-Decides}
use Rattle.sys_bus.specs.declared.region.RegionKind.TheVariants.{Clint, Plic}
use Rattle.sys_bus.specs.declared.plan.BoardPlan.{BoardPlan}
use Rattle.sys_bus.specs.Region.{are_apart, are_addressed}
use Rattle.sys_bus.specs.Name.{are_names, names_differ, processors}
use Rattle.sys_bus.specs.Part.{has_parts, has_no_others, has_region, have_memory_sizes}
use Rattle.sys_bus.specs.Plan.{IsValid}
use Rattle.sys_bus.specs.Limits.{are_few_devices, are_few_memories, is_speed, is_frequency, is_plic_size, are_steps}
use Rattle.sys_bus.specs.Limits.{are_few_processors, are_ranges}
use Rattle.sys_bus.specs.Wire.{are_wires}

-- a test for each field of `IsValid`, in its order
abbrev pub tests : BoardPlan → List Bool
tests plan =
    are_names plan.names
    ∷ names_differ plan.names
    ∷ pointwise bytes_eq plan.cpus (processors plan.names)
    ∷ has_parts plan.names plan.regions (length plan.memories) (length plan.kinds)
    ∷ has_no_others plan.names plan.regions (length plan.memories) (length plan.kinds)
    ∷ beq (is_some plan.frequency) (has_region plan.regions Clint)
    ∷ beq (is_some plan.plic) (has_region plan.regions Plic)
    ∷ have_memory_sizes plan.memories plan.regions
    ∷ are_steps plan.kinds plan.regions
    ∷ are_few_devices plan.kinds
    ∷ are_few_memories plan.memories
    ∷ are_few_processors plan.cpus
    ∷ is_speed (length plan.cpus) plan.speed
    ∷ is_frequency plan.frequency
    ∷ is_plic_size plan.plic
    ∷ are_ranges plan.kinds plan.regions
    ∷ are_apart plan.regions
    ∷ are_addressed plan.regions
    ∷ are_wires plan.kinds plan.regions plan.plic (length plan.cpus) plan.wires
    ∷ []

unfoldable pub is_valid_plan : BoardPlan → Bool
is_valid_plan plan = list_all (λ b. b) (tests plan)

-- each test of those that all pass
passed : (bs : List Bool) → list_all (λ b. b) bs ≡ true → (k : ℕ) → slice_index_or bs k true ≡ true
passed [] e k = refl
passed (b ∷ bs) e zero = (and_parts b (list_all (λ b. b) bs) e).0
passed (b ∷ bs) e (suc k) = passed bs (and_parts b (list_all (λ b. b) bs) e).1 k

both : {a b : Bool} → a ≡ true → b ≡ true → (a && b) ≡ true
both {a} {b} e f = and_from a b e f

same_names : (plan : BoardPlan) →
    Decides (pointwise bytes_eq plan.cpus (processors plan.names)) (plan.cpus ≡ processors plan.names)
same_names plan = slice_eq-Decides bytes_eq-Decides plan.cpus (processors plan.names) _ refl

valid_if_passed : (plan : BoardPlan) → ((k : ℕ) → slice_index_or (tests plan) k true ≡ true) → IsValid plan
valid_if_passed plan test = record {
  are_names = test 0;
  names_differ = test 1;
  processors = (same_names plan).0 (test 2);
  parts = test 3;
  no_others = test 4;
  timer = (booleans_Decides _ _).0 (test 5);
  controller = (booleans_Decides _ _).0 (test 6);
  memory_sizes = test 7;
  steps = test 8;
  few_devices = test 9;
  few_memories = test 10;
  few_processors = test 11;
  speed = test 12;
  frequency = test 13;
  plic = test 14;
  ranges = test 15;
  apart = test 16;
  addressed = test 17;
  wires = test 18;
}

passed_if_valid : (plan : BoardPlan) → IsValid plan → list_all (λ b. b) (tests plan) ≡ true
passed_if_valid plan v =
    both v.are_names (both v.names_differ (both ((same_names plan).1 v.processors)
    (both v.parts (both v.no_others (both ((booleans_Decides _ _).1 v.timer)
    (both ((booleans_Decides _ _).1 v.controller) (both v.memory_sizes (both v.steps
    (both v.few_devices (both v.few_memories (both v.few_processors (both v.speed (both v.frequency
    (both v.plic (both v.ranges (both v.apart (both v.addressed (both v.wires refl))))))))))))))))))

pub valid_plan_decides : (plan : BoardPlan) → Decides (is_valid_plan plan) (IsValid plan)
unfolding is_valid_plan
valid_plan_decides plan = (λ e. valid_if_passed plan (passed (tests plan) e), λ valid. passed_if_valid plan valid)
