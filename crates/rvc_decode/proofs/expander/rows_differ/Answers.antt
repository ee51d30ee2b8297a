-- Any two rows are apart.
use Rattle.rvc_decode.proofs.Sole.{sole_row}
use Rattle.rvc_decode.proofs.expander.rows_differ.Goals as goal

pub returns : goal.returns
returns c = sole_row
