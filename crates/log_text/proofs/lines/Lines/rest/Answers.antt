use Rattle.std.proofs.Common.{◌≡◌, ℕ, ◌+◌, ◌<◌, List, [], ◌++◌, length, get_or, take}
use Rattle.std.proofs.lemmas.List.{take_more, flat_map_more}
use Rattle.log_merge.specs.declared.names.Names.{Names}
use Rattle.log_text.specs.declared.line.OpenLine.{OpenLine}
use Rattle.log_text.specs.Log.{rest, uart_line}
use Rattle.log_text.proofs.lines.Lines.rest.Goals as goal

-- where the first lines have been printed, and then the next one, one line more has been printed
one_more :
    (names : Names) (before after : List ℕ) (lines : List OpenLine) (i : ℕ) (line : OpenLine) →
    i < length lines → line ≡ get_or lines i line → before ≡ rest names (take i lines) →
    after ≡ before ++ uart_line names line → after ≡ rest names (take (i + 1) lines)
one_more names before after lines i line within is had wrote =
    rw (wrote, had, take_more lines i line within, ← is) (flat_map_more (uart_line names) [] (take i lines) line)

pub loop-line-preserved : goal.loop-line-preserved
loop-line-preserved c =
    one_more c.args.names.now _ _ _ _ c.line-item.result c.loop-line-test.true c.line-item.is c.loop-line.invariant
    (c.in_ok-print.ensures {u = tt})
