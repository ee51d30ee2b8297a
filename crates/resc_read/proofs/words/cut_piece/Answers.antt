-- A blank is a sign of its own, so a line may be cut after it.
use Rattle.std.proofs.Common.{◌<◌, length, arith}
use Rattle.std.proofs.lemmas.Str.{IsCharBoundary-after_ascii}
use Rattle.resc_read.specs.Piece.{IsFirstPiece}
use Rattle.resc_read.proofs.PieceLemmas.{blank_ascii}
use Rattle.resc_read.proofs.words.cut_piece.Goals as goal

pub range_from-requires : goal.range_from-requires
range_from-requires c =
    let line = c.args.line.now in
    let n = c.piece_len-n.result in
    let first : IsFirstPiece line n = rw c.as_bytes.ensures.value at c.piece_len-n.ensures in
    let below : n < length line = omega (arith, first.within) in
    λ some. IsCharBoundary-after_ascii line n c.utf8.line below (blank_ascii _ (first.blank below))
