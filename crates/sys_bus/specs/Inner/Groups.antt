-- What is valid of a plan, in the order in which it is tested.
use Rattle.std.specs.Prelude.{◌≡◌, IsTrue, length, is_some}
use Rattle.sys_bus.specs.declared.region.RegionKind.TheVariants.{Clint, Plic}
use Rattle.sys_bus.specs.declared.plan.BoardPlan.{BoardPlan}
use Rattle.sys_bus.specs.Region.{are_apart, are_addressed}
use Rattle.sys_bus.specs.Name.{are_names, names_differ, processors}
use Rattle.sys_bus.specs.Part.{has_parts, has_no_others, has_region, have_memory_sizes}
use Rattle.sys_bus.specs.Limits.{are_few_devices, are_few_memories, is_speed, is_frequency, is_plic_size, are_steps}
use Rattle.sys_bus.specs.Limits.{are_few_processors, are_ranges}
use Rattle.sys_bus.specs.Wire.{are_wires}

pub record IsWithinLimits (plan : BoardPlan) : Type 0 where
  pub few_devices : IsTrue (are_few_devices plan.kinds)
  pub few_memories : IsTrue (are_few_memories plan.memories)
  pub few_processors : IsTrue (are_few_processors plan.cpus)
  pub speed : IsTrue (is_speed (length plan.cpus) plan.speed)
  pub frequency : IsTrue (is_frequency plan.frequency)
  pub plic : IsTrue (is_plic_size plan.plic)
  pub ranges : IsTrue (are_ranges plan.kinds plan.regions)

pub record IsNamed (plan : BoardPlan) : Type 0 where
  pub are_names : IsTrue (are_names plan.names)
  pub names_differ : IsTrue (names_differ plan.names)
  pub processors : plan.cpus ≡ processors plan.names

pub record IsWhole (plan : BoardPlan) : Type 0 where
  pub parts : IsTrue (has_parts plan.names plan.regions (length plan.memories) (length plan.kinds))
  pub no_others : IsTrue (has_no_others plan.names plan.regions (length plan.memories) (length plan.kinds))
  pub timer : is_some plan.frequency ≡ has_region plan.regions Clint
  pub controller : is_some plan.plic ≡ has_region plan.regions Plic

pub record IsLaidOut (plan : BoardPlan) : Type 0 where
  pub memory_sizes : IsTrue (have_memory_sizes plan.memories plan.regions)
  pub steps : IsTrue (are_steps plan.kinds plan.regions)
  pub apart : IsTrue (are_apart plan.regions)
  pub addressed : IsTrue (are_addressed plan.regions)
  pub wires : IsTrue (are_wires plan.kinds plan.regions plan.plic (length plan.cpus) plan.wires)
