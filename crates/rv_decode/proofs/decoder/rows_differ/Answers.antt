-- Any two rows are apart, and each is found by its instruction.
use Rattle.rv_decode.proofs.Sole.{sole_row}
use Rattle.rv_decode.proofs.Formats.{row_of-own}
use Rattle.rv_decode.proofs.decoder.rows_differ.Goals as goal

pub returns-clause-words : goal.returns-clause-words
returns-clause-words c = sole_row

pub returns-clause-instructions : goal.returns-clause-instructions
returns-clause-instructions c = row_of-own
