-- The fields of a word fit.
use Rattle.rv_decode.proofs.FitLemmas.{IsInstr-valid}
use Rattle.rv_decode.proofs.decoder.valid_fits.Goals as goal

pub returns : goal.returns
returns c = IsInstr-valid
