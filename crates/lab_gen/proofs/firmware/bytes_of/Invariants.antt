use Rattle.std.proofs.Common.{◌≡◌, ◌++◌, drop}
use Rattle.std.specs.List.{flat_map}
use Rattle.lab_gen.specs.Firmware.{word_bytes}
use Rattle.lab_gen.proofs.firmware.bytes_of.Given as goal

-- The bytes so far and those of the words to come are the bytes of all.
abbrev pub invariant-loop-word : goal.invariant-loop-word
invariant-loop-word l =
    l.bytes.items ++ flat_map word_bytes (drop l.word-index l.words) ≡ flat_map word_bytes l.words
