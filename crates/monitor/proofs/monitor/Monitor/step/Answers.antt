-- The text of a step is what was written to an output in memory.
use Rattle.lab_state.specs.Run.{run}
use Rattle.monitor.proofs.Steps.{cut_is_memory, first_is, says_text}
use Rattle.monitor.proofs.monitor.Monitor.step.Goals as goal

pub returns-in-Done-clause-step : goal.returns-in-Done-clause-step
returns-in-Done-clause-step g c =
    rw c.of.ensures
    (says_text run c.args.self.now.state c.step_to.new.self.state (g.F.Files.held c.args.files.now) _ _ _ _
    c.new-out.ensures c.in-Done.ensures.step)

pub returns-in-Cut-clause-step : goal.returns-in-Cut-clause-step
returns-in-Cut-clause-step g c =
    cut_is_memory run c.args.self.now.state c.step_to.new.self.state (g.F.Files.held c.args.files.now)
    c.in-Cut.field-0 _ _ _ _ c.in-Cut.ensures.step

pub returns-in-Save-clause-step : goal.returns-in-Save-clause-step
returns-in-Save-clause-step g c = first_is (g.F.Files.held c.args.files.now) _ _ c.in-Save.ensures.step

pub returns-in-Load-clause-step : goal.returns-in-Load-clause-step
returns-in-Load-clause-step g c = first_is (g.F.Files.held c.args.files.now) _ _ c.in-Load.ensures.step

pub returns-in-End-clause-step : goal.returns-in-End-clause-step
returns-in-End-clause-step g c = first_is (g.F.Files.held c.args.files.now) _ _ c.in-End.ensures.step

pub returns-in-Fault-clause-step : goal.returns-in-Fault-clause-step
returns-in-Fault-clause-step g c = first_is (g.F.Files.held c.args.files.now) _ _ c.in-Fault.ensures.step

pub returns-in-Unread-clause-step : goal.returns-in-Unread-clause-step
returns-in-Unread-clause-step g c = first_is (g.F.Files.held c.args.files.now) _ _ c.in-Unread.ensures.step

pub returns-in-Memory-clause-step : goal.returns-in-Memory-clause-step
returns-in-Memory-clause-step g c = first_is (g.F.Files.held c.args.files.now) _ _ c.in-Memory.ensures.step
