-- None of the names before is this one.
use Rattle.std.proofs.Common.{◌≡◌, drop, map}
use Rattle.rv_asm.specs.Mnemonics.{named_in}
use Rattle.rv_asm.proofs.mnemonics.op_in.Given as goal

abbrev pub invariant-loop-known : goal.invariant-loop-known
invariant-loop-known l =
    named_in (map (λ x. (x.0.now, x.1)) (drop l.known-index l.names)) l.name ≡
    named_in (map (λ x. (x.0.now, x.1)) l.names) l.name
