-- The plan of the boards is one that boards can be made by.
use Rattle.std.proofs.Common.{refl}
use Rattle.sys_bus.specs.Plan.{IsValid}
use Rattle.lab_gen.specs.Plan.{plan}

pub plan_valid : IsValid plan
plan_valid = record {
  are_names = refl;
  names_differ = refl;
  processors = refl;
  parts = refl;
  no_others = refl;
  timer = refl;
  controller = refl;
  memory_sizes = refl;
  steps = refl;
  few_devices = refl;
  few_memories = refl;
  few_processors = refl;
  speed = refl;
  frequency = refl;
  plic = refl;
  ranges = refl;
  apart = refl;
  addressed = refl;
  wires = refl;
}
