use Rattle.std.proofs.Common.{◌≡◌, ◌++◌, take, string_bytes}
use Rattle.std.specs.List.{flat_map}
use Rattle.log_text.specs.Log.{escaped}
use Rattle.log_text.proofs.line.print_bytes.Given as goal

-- The bytes so far have been written.
abbrev pub invariant-loop-byte : goal.invariant-loop-byte
invariant-loop-byte l = string_bytes l.text ≡ string_bytes l.fn.text ++ flat_map escaped (take l.byte-index l.bytes)
