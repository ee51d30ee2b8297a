-- The bytes before are blanks.
use Rattle.std.proofs.Common.{◌≡◌, ◌+◌}
use Rattle.std.proofs.Common.{drop}
use Rattle.std.specs.List.{prefix_len}
use Rattle.rv_asm.specs.Texts.{is_blank}
use Rattle.rv_asm.proofs.texts.front_blanks.Given as goal

abbrev pub invariant-loop-i : goal.invariant-loop-i
invariant-loop-i l = prefix_len is_blank l.bytes ≡ l.i + prefix_len is_blank (drop l.i l.bytes)
