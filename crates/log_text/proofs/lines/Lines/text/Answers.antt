use Rattle.std.proofs.Common.{arith}
use Rattle.std.proofs.lemmas.Grind.{common_steps}
use Rattle.log_text.proofs.lines.Lines.text.Goals as goal

pub loop-item-preserved : goal.loop-item-preserved
loop-item-preserved c =
    let wrote = c.in_ok-print_item.ensures {u = tt} in
    record { text = grind (arith, common_steps); lines = grind (arith, common_steps) }

pub returns-clause-text : goal.returns-clause-text
returns-clause-text c = grind (arith, common_steps)

pub returns-clause-lines : goal.returns-clause-lines
returns-clause-lines c = grind (arith, common_steps)
