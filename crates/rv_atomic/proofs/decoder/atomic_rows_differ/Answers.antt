-- Any two rows are apart.
use Rattle.rv_atomic.proofs.Sole.{sole_row}
use Rattle.rv_atomic.proofs.decoder.atomic_rows_differ.Goals as goal

pub returns : goal.returns
returns c = sole_row
