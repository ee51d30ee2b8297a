use Rattle.std.proofs.Common.{◌≡◌, ◌-◌, drop}
use Rattle.log_text.specs.Line.{rise}
use Rattle.log_text.proofs.lines.rise.Given as goal

-- The lines rise where those from the last compared one on do.
abbrev pub invariant-loop-i : goal.invariant-loop-i
invariant-loop-i l = rise l.lines ≡ rise (drop (l.i - 1) l.lines)
