use Rattle.std.proofs.lemmas.Result.{err_from_is_err_and}
use Rattle.lab_state.specs.Run.{run}
use Rattle.resc_read.specs.Line.{line_of}
use Rattle.monitor.specs.Command.{done_by}
use Rattle.monitor.specs.Inner.Ruling.{line_stop}
use Rattle.monitor.proofs.Ruled.{line_refused}
use Rattle.monitor.proofs.Within.{line_within}
use Rattle.monitor.proofs.Writings.{stopped_unwritten}
use Rattle.monitor.proofs.monitor.Monitor.carry_out_line.Goals as goal

pub carry_out_to-requires-clause-within : goal.carry_out_to-requires-clause-within
carry_out_to-requires-clause-within g c κs within =
    line_within c.args.text.now c.in_ok-command.command c.in_ok-command.ensures

pub returns-in_err-command : goal.returns-in_err-command
returns-in_err-command g c =
    let exit = err_from_is_err_and c.from_residual.result c.from_residual.ensures.1 in
    let s = c.args.self.now.state in
    rw (exit.1, exit.2)
    (stopped_unwritten (λ held place. done_by run held s place (line_of c.args.text.now))
    (line_stop c.in_err-command.field-0.0) c.args.self.now c.args.self.now c.args.files.now c.args.files.now
    c.args.out.now
    (line_refused run (line_of c.args.text.now) c.in_err-command.field-0.0 c.args.self.now c.args.files.now
    c.in_err-command.ensures))

pub returns : goal.returns
returns g c = rw c.in_ok-command.ensures c.carry_out_to.ensures
