use Rattle.std.proofs.Common.{◌≡◌, take}
use Rattle.dev_core.proofs.byte_row.ByteRow.of.Given as goal

abbrev pub invariant-loop-byte : goal.invariant-loop-byte
invariant-loop-byte l = l.row ≡ take l.byte-index l.bytes
