-- What a command prints is written at once.
use Rattle.std.proofs.Common.{Err, ap, subst}
use Rattle.lab_io.proofs.Frames.{writes_as}
use Rattle.lab_state.specs.Run.{run}
use Rattle.monitor.specs.Command.{does, work}
use Rattle.monitor.specs.Step.{Running}
use Rattle.monitor.proofs.OpenLemmas.{RunsKeep, work_keeps}
use Rattle.monitor.proofs.Ruled.{worked_done}
use Rattle.monitor.proofs.Writings.{stopped_unwritten, text_cut, text_written}
use Rattle.monitor.proofs.monitor.Monitor.carry_out_at_once.Goals as goal

pub returns-in-Ok-write_whole : goal.returns-in-Ok-write_whole
returns-in-Ok-write_whole g c =
    let s = c.args.self.now.state in
    let command = c.args.command in
    let runs : RunsKeep s.lab =
    subst (λ (r : Running). RunsKeep r.state.lab) c.self.view_is c.runs_keep_lines_open.ensures in
    text_written (λ held place. does held place (work run s command)) c.in-Ok.text c.args.self.now c.carry_out.new.self
    c.args.files.now c.carry_out.new.files c.args.out.now c.write_whole.new.out _
    (worked_done (work run s command) _ c.args.self.now c.carry_out.new.self c.args.files.now c.carry_out.new.files
    (λ held place open_. work_keeps s runs open_ held place command) c.in-Ok.ensures)
    (rw (← c.deref.ensures.value) c.in-Ok-write_whole.ensures.whole) c.write_whole.ensures.output

pub returns-in-Ok : goal.returns-in-Ok
returns-in-Ok g c =
    let s = c.args.self.now.state in
    let command = c.args.command in
    let runs : RunsKeep s.lab =
    subst (λ (r : Running). RunsKeep r.state.lab) c.self.view_is c.runs_keep_lines_open.ensures in
    text_cut (λ held place. does held place (work run s command)) c.in-Ok.text c.args.self.now c.carry_out.new.self
    c.args.files.now c.carry_out.new.files c.args.out.now c.write_whole.new.out c.in-Err-write_whole.fault
    (worked_done (work run s command) _ c.args.self.now c.carry_out.new.self c.args.files.now c.carry_out.new.files
    (λ held place open_. work_keeps s runs open_ held place command) c.in-Ok.ensures)
    (rw (← c.deref.ensures.value) c.in-Err-write_whole.ensures.part)
    (writes_as (λ same. ap Err same) c.in-Err-write_whole.ensures.output)

pub returns : goal.returns
returns g c =
    let s = c.args.self.now.state in
    let command = c.args.command in
    let runs : RunsKeep s.lab =
    subst (λ (r : Running). RunsKeep r.state.lab) c.self.view_is c.runs_keep_lines_open.ensures in
    stopped_unwritten (λ held place. does held place (work run s command)) c.in-Err.stop c.args.self.now
    c.carry_out.new.self c.args.files.now c.carry_out.new.files c.args.out.now
    (worked_done (work run s command) _ c.args.self.now c.carry_out.new.self c.args.files.now c.carry_out.new.files
    (λ held place open_. work_keeps s runs open_ held place command) c.in-Err.ensures)
