-- The numbers so far, and then those of the other spans.
use Rattle.std.proofs.Common.{◌≡◌, ◌++◌, drop}
use Rattle.std.specs.List.{flat_map}
use Rattle.repl_build.specs.Wires.{numbers_of}
use Rattle.repl_build.proofs.wires.numbers_of.Given as goal

abbrev pub invariant-loop-span : goal.invariant-loop-span
invariant-loop-span l =
    l.numbers.items ++ flat_map numbers_of (drop l.span-index l.spans) ≡ flat_map numbers_of l.spans
