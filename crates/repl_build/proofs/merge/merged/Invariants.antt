-- The peripherals so far, and then the rest.
use Rattle.std.proofs.Common.{◌≡◌, ◌++◌, drop}
use Rattle.std.specs.List.{flat_map}
use Rattle.repl_build.specs.Merge.{merged, peripheral_of}
use Rattle.repl_build.proofs.merge.merged.Given as goal

abbrev pub invariant-loop-entry : goal.invariant-loop-entry
invariant-loop-entry l =
    l.peripherals.items ++ flat_map (peripheral_of l.entries) (drop l.entry-index l.entries) ≡ merged l.entries
