use Rattle.std.proofs.Common.{refl}
use Rattle.resc_read.proofs.PieceLemmas.{none_read}
use Rattle.resc_read.proofs.words.piece_len.Goals as goal

pub loop-i-init : goal.loop-i-init
loop-i-init c = record { pieces = none_read c.args.line.now; gaps = refl }
