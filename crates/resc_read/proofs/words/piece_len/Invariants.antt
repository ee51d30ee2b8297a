use Rattle.resc_read.proofs.PieceLemmas.{ReadsPieces, ReadsGaps}
use Rattle.resc_read.proofs.words.piece_len.Given as goal

abbrev pub invariant-loop-i : goal.invariant-loop-i
invariant-loop-i l = record { pieces : ReadsPieces l.line l.i l.quoted; gaps : ReadsGaps l.line l.i l.quoted }
