use Rattle.lab_state.specs.Run.{run}
use Rattle.monitor.specs.declared.progress.Progress.TheVariants.{End}
use Rattle.monitor.proofs.Steps.{line_step, end_is, fault_is, step_absent}
use Rattle.monitor.proofs.monitor.Monitor.step_to.Goals as goal

pub returns-in-Line-clause-step : goal.returns-in-Line-clause-step
returns-in-Line-clause-step g c =
    rw (← c.self.view_is)
    (line_step run _ c.take_line.new.self.state c.next.new.self (g.F.Files.held c.args.files.now) c.take_line.result _ _
    _ _ c.in-Line.file c.in-Line.line c.in-Line.text c.as_str.result.now c.in-Line.ensures.says c.as_str.ensures
    c.take_line.ensures.step)

pub returns-in-Line-clause-absent : goal.returns-in-Line-clause-absent
returns-in-Line-clause-absent g c =
    step_absent run c.args.self.now.state _ (g.F.Files.held c.args.files.now) c.take_line.result _ _ _ _
    (returns-in-Line-clause-step g c)

pub returns-in-End-clause-step : goal.returns-in-End-clause-step
returns-in-End-clause-step g c =
    rw (← c.self.view_is)
    (end_is run _ c.args.self.now.state c.next.new.self (g.F.Files.held c.args.files.now) _ _ c.in-End.ensures.says)

pub returns-in-End-clause-absent : goal.returns-in-End-clause-absent
returns-in-End-clause-absent g c =
    step_absent run c.args.self.now.state c.args.self.now.state (g.F.Files.held c.args.files.now) End
    (g.F.Files.asked c.args.files.now) (g.F.Files.asked c.args.files.now) (g.K.Sink.written c.args.out.now)
    (g.K.Sink.written c.args.out.now) (returns-in-End-clause-step g c)

pub returns-in-Fault-clause-step : goal.returns-in-Fault-clause-step
returns-in-Fault-clause-step g c =
    rw (← c.self.view_is, c.fault_at.ensures)
    (fault_is run _ c.args.self.now.state c.next.new.self (g.F.Files.held c.args.files.now) c.in-Fault.file
    c.in-Fault.line c.in-Fault.cause _ _ c.in-Fault.ensures.says)

pub returns-in-Fault-clause-absent : goal.returns-in-Fault-clause-absent
returns-in-Fault-clause-absent g c =
    step_absent run c.args.self.now.state _ (g.F.Files.held c.args.files.now) c.fault_at.result _ _ _ _
    (returns-in-Fault-clause-step g c)
