-- A device more is taken.
use Rattle.std.proofs.Common.{arith}
use Rattle.std.proofs.lemmas.Grind.{common_steps}
use Rattle.dev_core.specs.declared.kind.Kind.TheVariants.{Uart}
use Rattle.lab_state.proofs.SpareLemmas.{still_left}
use Rattle.lab_state.proofs.spares.Spares.take.Goals as goal

pub next-requires : goal.next-requires
next-requires g c =
    still_left c.args.self.now c.loop-kind.self c.args.kinds.now c.loop-kind.kind-index Uart c.requires
    c.loop-kind.invariant.taken c.loop-kind-test.true

pub loop-kind-preserved : goal.loop-kind-preserved
loop-kind-preserved g c = record {
  devices = grind (arith, common_steps);
  taken = λ kind. grind (arith, common_steps, c.loop-kind.invariant.taken kind, c.next.ensures.left kind);
  room = grind (arith, common_steps);
}
