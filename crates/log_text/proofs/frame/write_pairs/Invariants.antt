use Rattle.std.proofs.Common.{◌≡◌, ◌++◌, take, string_bytes}
use Rattle.log_text.specs.Frame.{pairs}
use Rattle.log_text.proofs.frame.write_pairs.Given as goal

-- The bytes so far have been written.
abbrev pub invariant-loop-byte : goal.invariant-loop-byte
invariant-loop-byte l = string_bytes l.text ≡ string_bytes l.fn.text ++ pairs (take l.byte-index l.bytes)
