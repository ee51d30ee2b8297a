use Rattle.std.proofs.Common.{◌≡◌, map, replicate}
use Rattle.dev_core.specs.Can.{can_reset}
use Rattle.dev_core.specs.declared.state.DevState.TheVariants.{Can}
use Rattle.chips.specs.Chip.{state_of}
use Rattle.chips.proofs.stock.cans.Given as goal

abbrev pub invariant-loop-made : goal.invariant-loop-made
invariant-loop-made l = map state_of l.cans.items ≡ replicate l._made (Can can_reset)
