use Rattle.lab_snap.proofs.BoardLemmas.{none_before}
use Rattle.lab_snap.proofs.loading.nothing_pending_law.Goals as goal

pub returns : goal.returns
returns g c =
    none_before c.args.lab.now.lab.pending c.pending-pending.ensures.value c.pending-pending.ensures.sent c.requires.new
