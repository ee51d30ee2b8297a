-- Bytes that hold a laboratory were not refused.
use Rattle.std.proofs.Common.{arith}
use Rattle.lab_snap.proofs.SnapshotLemmas.{none_held}
use Rattle.lab_snap.proofs.loading.load.Goals as goal

pub returns-else-eq-clause-refused : goal.returns-else-eq-clause-refused
returns-else-eq-clause-refused g c =
    none_held c.snapshots_are_what_they_spell.ensures.found c.args.bytes.now c.load_or_part-result.result _
    (λ i. omega (arith, c.type_inv.bytes i)) c.load_or_part-result.ensures.only
