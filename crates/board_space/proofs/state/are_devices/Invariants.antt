use Rattle.std.proofs.Common.{ℕ, ◌<◌}
use Rattle.std.specs.Prelude.{slice_index_or}
use Rattle.dev_core.specs.declared.kind.Kind.TheVariants as kind
use Rattle.dev_core.specs.declared.state.DevState.TheVariants as state
use Rattle.board_space.specs.Parts.{IsStateOfKind}
use Rattle.board_space.proofs.state.are_devices.Given as goal

abbrev pub invariant-loop-dev : goal.invariant-loop-dev
invariant-loop-dev l =
    (k : ℕ) → k < l.dev →
    IsStateOfKind (slice_index_or l.kinds k kind.Finisher) (slice_index_or l.devices k state.Finisher)
