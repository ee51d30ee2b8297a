-- The bytes after are blanks.
use Rattle.std.proofs.Common.{◌≡◌, ◌+◌, ◌≤◌, ◌<◌, true, length, take, get_or}
use Rattle.std.specs.List.{suffix_len}
use Rattle.rv_asm.specs.Texts.{is_blank}
use Rattle.rv_asm.proofs.texts.length_to_back.Given as goal

abbrev pub invariant-loop-n : goal.invariant-loop-n
invariant-loop-n l = record {
  within : l.n ≤ length l.bytes;
  counts : l.n + suffix_len is_blank l.bytes ≡ length l.bytes + suffix_len is_blank (take l.n l.bytes);
  blank : l.n < length l.bytes → is_blank (get_or l.bytes l.n 0) ≡ true;
}

abbrev pub decreases-loop-n : goal.decreases-loop-n
decreases-loop-n l = l.n
