use Rattle.std.proofs.Common.{◌≡◌, drop}
use Rattle.std.specs.List.{list_all}
use Rattle.log_text.specs.Line.{is_unended}
use Rattle.log_text.proofs.lines.all_unended.Given as goal

-- The lines so far are unended.
abbrev pub invariant-loop-line : goal.invariant-loop-line
invariant-loop-line l = list_all is_unended l.lines ≡ list_all is_unended (drop l.line-index l.lines)
