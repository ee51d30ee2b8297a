-- The bytes before are no blanks.
use Rattle.std.proofs.Common.{◌≡◌, ◌+◌}
use Rattle.std.proofs.Common.{drop}
use Rattle.std.specs.List.{position_or_len}
use Rattle.rv_asm.specs.Texts.{is_blank}
use Rattle.rv_asm.proofs.texts.word_length.Given as goal

abbrev pub invariant-loop-i : goal.invariant-loop-i
invariant-loop-i l = position_or_len is_blank l.bytes ≡ l.i + position_or_len is_blank (drop l.i l.bytes)
