use Rattle.std.proofs.Common.{◌≡◌, ◌++◌, drop, string_bytes}
use Rattle.log_text.specs.Log.{text, open_lines}
use Rattle.log_text.proofs.lines.Lines.text.Given as goal

-- What has been printed and what is still to come are all that is printed.
abbrev pub invariant-loop-item : goal.invariant-loop-item
invariant-loop-item l = record {
  text : string_bytes l.text ++ text l.names l.lines (drop l.item-index l.items) ≡ text l.names l.fn.self l.items;
  lines : open_lines l.lines (drop l.item-index l.items) ≡ open_lines l.fn.self l.items;
}
