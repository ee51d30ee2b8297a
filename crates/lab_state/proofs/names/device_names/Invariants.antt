-- The names of the devices so far.
use Rattle.std.proofs.Common.{◌≡◌, map}
use Rattle.std.specs.List.{range_with_len}
use Rattle.lab_state.specs.Names.{device_name}
use Rattle.lab_state.proofs.names.device_names.Given as goal

abbrev pub invariant-loop-dev : goal.invariant-loop-dev
invariant-loop-dev l = l.names.items ≡ map (device_name l.plan) (range_with_len 0 l.dev)
