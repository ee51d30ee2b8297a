use Rattle.std.proofs.Common.{◌≡◌, take, string_bytes}
use Rattle.log_text.specs.Log.{rest}
use Rattle.log_text.proofs.lines.Lines.rest.Given as goal

-- The lines so far have been printed.
abbrev pub invariant-loop-line : goal.invariant-loop-line
invariant-loop-line l = string_bytes l.text ≡ rest l.names (take l.line-index l.line-items)
