-- A run is written round by round, and what another command prints at once.
use Rattle.std.proofs.Common.{subst}
use Rattle.std.specs.FinMap.{empty}
use Rattle.lab_state.specs.Run.{run}
use Rattle.resc_read.specs.declared.command.Command.TheVariants.{RunFor, Start}
use Rattle.monitor.specs.Runs.{run_for, start}
use Rattle.monitor.specs.Step.{Running}
use Rattle.monitor.proofs.OpenLemmas.{RunsKeep, work_keeps}
use Rattle.monitor.proofs.Writings.{run_written}
use Rattle.monitor.proofs.monitor.Monitor.carry_out_to.Goals as goal

pub returns-in-RunFor : goal.returns-in-RunFor
returns-in-RunFor g c =
    let s = c.args.self.now.state in
    let runs : RunsKeep s.lab =
    subst (λ (r : Running). RunsKeep r.state.lab) c.self.view_is c.runs_keep_lines_open.ensures in
    rw c.in-RunFor.is
    (run_written (run_for run s c.in-RunFor.length.0) c.run_for.result c.args.self.now c.run_for.new.self
    c.args.files.now c.args.out.now c.run_for.new.out
    (λ place open_. work_keeps s runs open_ empty place (RunFor c.in-RunFor.length))
    c.run_for.ensures.made c.run_for.ensures.output)

pub returns-in-Start : goal.returns-in-Start
returns-in-Start g c =
    let s = c.args.self.now.state in
    let runs : RunsKeep s.lab =
    subst (λ (r : Running). RunsKeep r.state.lab) c.self.view_is c.runs_keep_lines_open.ensures in
    rw c.in-Start.is
    (run_written (start run s) c.start.result c.args.self.now c.start.new.self c.args.files.now c.args.out.now
    c.start.new.out (λ place open_. work_keeps s runs open_ empty place Start) c.start.ensures.made
    c.start.ensures.output)
