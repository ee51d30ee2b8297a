use Rattle.std.proofs.Common.{arith}
use Rattle.std.proofs.lemmas.Grind.{common_steps}
use Rattle.lab_gen.proofs.Told.{bare_line}
use Rattle.lab_gen.proofs.summary.print_board.Goals as goal

pub returns-then-not-has_plan-clause-text : goal.returns-then-not-has_plan-clause-text
returns-then-not-has_plan-clause-text g c =
    grind (
      arith,
      common_steps,
      bare_line c.args.lab.now.lab.boards c.args.b.0 c.requires.exists,
      c.has_plan.ensures,
      c.if-not-has_plan.true,
    )
