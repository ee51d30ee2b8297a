-- Jumps and branches have a format whose immediate is even.
use Rattle.rv_decode.proofs.OffsetLemmas.{even_offset}
use Rattle.rv_decode.proofs.decoder.offsets_are_even.Goals as goal

pub returns : goal.returns
returns c = even_offset
