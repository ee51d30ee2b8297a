-- When a plan is one that a board can be made by.
use Rattle.std.specs.Prelude.{◌≡◌, IsTrue, length, is_some}
use Rattle.sys_bus.specs.declared.region.RegionKind.TheVariants.{Clint, Plic}
use Rattle.sys_bus.specs.declared.plan.BoardPlan.{BoardPlan}
use Rattle.sys_bus.specs.Region.{are_apart, are_addressed}
use Rattle.sys_bus.specs.Name.{are_names, names_differ, processors}
use Rattle.sys_bus.specs.Part.{has_parts, has_no_others, has_region, have_memory_sizes}
use Rattle.sys_bus.specs.Limits.{are_few_devices, are_few_memories, is_speed, is_frequency, is_plic_size, are_steps}
use Rattle.sys_bus.specs.Limits.{are_few_processors, are_ranges}
use Rattle.sys_bus.specs.Wire.{are_wires}

pub record IsValid (plan : BoardPlan) : Type 0 where
  -- its names are names of a platform and differ; those of the processors, in order, are `cpus`
  pub are_names : IsTrue (are_names plan.names)
  pub names_differ : IsTrue (names_differ plan.names)
  pub processors : plan.cpus ≡ processors plan.names
  -- each memory, timer, interrupt controller and device has one name and one region, and nothing else has one
  pub parts : IsTrue (has_parts plan.names plan.regions (length plan.memories) (length plan.kinds))
  pub no_others : IsTrue (has_no_others plan.names plan.regions (length plan.memories) (length plan.kinds))
  -- what a timer and an interrupt controller need is there exactly where they are
  pub timer : is_some plan.frequency ≡ has_region plan.regions Clint
  pub controller : is_some plan.plic ≡ has_region plan.regions Plic
  -- a memory's region has the memory's size
  pub memory_sizes : IsTrue (have_memory_sizes plan.memories plan.regions)
  -- a device's step is one that its kind allows, and every other is 1
  pub steps : IsTrue (are_steps plan.kinds plan.regions)
  -- counts, numbers, addresses and sizes are within their limits
  pub few_devices : IsTrue (are_few_devices plan.kinds)
  pub few_memories : IsTrue (are_few_memories plan.memories)
  pub few_processors : IsTrue (are_few_processors plan.cpus)
  pub speed : IsTrue (is_speed (length plan.cpus) plan.speed)
  pub frequency : IsTrue (is_frequency plan.frequency)
  pub plic : IsTrue (is_plic_size plan.plic)
  pub ranges : IsTrue (are_ranges plan.kinds plan.regions)
  -- no byte lies in two regions, and all lie below 2^32
  pub apart : IsTrue (are_apart plan.regions)
  pub addressed : IsTrue (are_addressed plan.regions)
  -- each wire is one that a board may have
  pub wires : IsTrue (are_wires plan.kinds plan.regions plan.plic (length plan.cpus) plan.wires)
