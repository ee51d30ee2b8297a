use Rattle.std.proofs.Common.{arith}
use Rattle.std.proofs.lemmas.Grind.{common_steps}
use Rattle.log_text.proofs.item.print_frame.Goals as goal

pub returns-in_err-write : goal.returns-in_err-write
returns-in_err-write c = grind arith

pub returns-in_err-write_frame : goal.returns-in_err-write_frame
returns-in_err-write_frame c = grind arith

pub returns-in_err-push : goal.returns-in_err-push
returns-in_err-push c = grind arith

pub returns : goal.returns
returns c = grind (arith, common_steps)
