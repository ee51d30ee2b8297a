-- Each row of the table has the mask of its format.
use Rattle.rv_decode.proofs.Rows.{row_matches}
use Rattle.rv_decode.proofs.decoder.rows_match_fields.Goals as goal

pub returns : goal.returns
returns c = row_matches
