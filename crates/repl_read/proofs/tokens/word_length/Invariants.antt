-- Only bytes of a word so far.
use Rattle.std.proofs.Common.{◌≡◌, true, take}
use Rattle.std.specs.List.{list_all}
use Rattle.repl_read.specs.Tokens.{is_word_byte}
use Rattle.repl_read.proofs.tokens.word_length.Given as goal

abbrev pub invariant-loop-i : goal.invariant-loop-i
invariant-loop-i l = list_all is_word_byte (take l.i l.bytes) ≡ true
