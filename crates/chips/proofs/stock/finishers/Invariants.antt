use Rattle.std.proofs.Common.{◌≡◌, map, replicate}
use Rattle.dev_core.specs.declared.state.DevState.TheVariants.{Finisher}
use Rattle.chips.specs.Chip.{state_of}
use Rattle.chips.proofs.stock.finishers.Given as goal

abbrev pub invariant-loop-made : goal.invariant-loop-made
invariant-loop-made l = map state_of l.finishers.items ≡ replicate l._made Finisher
