use Rattle.std.proofs.Common.{◌∙◌, ap, refl, subst, sym}
use Rattle.lab_io.proofs.Frames.{reads_as, writes_as}
use Rattle.lab_state.specs.Run.{run}
use Rattle.resc_read.specs.Line.{line_of}
use Rattle.lab_io.specs.declared.sink.WriteFault.TheVariants.{Unwritten}
use Rattle.monitor.specs.Command.{done_by}
use Rattle.monitor.specs.State.{LinePlace}
use Rattle.monitor.specs.Step.{Running}
use Rattle.monitor.proofs.Ruled.{GoesOn, stop_goes_on}
use Rattle.monitor.proofs.Writings.{stop_after, stop_is_progress, stop_uncut, stop_unread}
use Rattle.monitor.proofs.monitor.Monitor.take_line.Goals as goal

pub returns-in-Ok-clause-step : goal.returns-in-Ok-clause-step
returns-in-Ok-clause-step g c = λ held is.
    let place : LinePlace = record { file = c.args.file; number = c.args.line } in
    let written = c.in-Ok.ensures.written place held is in
    rw (ap (λ (r : Running). r.state) c.self.view_is) (written.0, (written.1, written.2), written.3)

pub returns-in-Ok-clause-files : goal.returns-in-Ok-clause-files
returns-in-Ok-clause-files g c = reads_as (λ same. cc same) c.carry_out_line.ensures.reads

pub returns-in-Ok-clause-output : goal.returns-in-Ok-clause-output
returns-in-Ok-clause-output g c = writes_as (λ same. cc same) c.carry_out_line.ensures.writes

pub returns-in-Err-Stop-clause-step : goal.returns-in-Err-Stop-clause-step
returns-in-Err-Stop-clause-step g c = λ held is.
    let place : LinePlace = record { file = c.args.file; number = c.args.line } in
    let done = rw c.in-Err-Stop.field-0-is at c.in-Err-Stop.ensures in
    let written = done.written place held is in
    rw (c.stopped.ensures, ap (λ (r : Running). r.state) c.self.view_is)
    (stop_is_progress (done_by run held c.args.self.now.state place (line_of c.args.text.now)) place
    c.in-Err-Stop.stop c.carry_out_line.new.self.state (g.F.Files.asked c.args.files.now)
    (g.F.Files.asked c.carry_out_line.new.files) (g.K.Sink.written c.args.out.now)
    (g.K.Sink.written c.carry_out_line.new.out) written.0 written.1)

pub returns-in-Err-Stop-clause-next : goal.returns-in-Err-Stop-clause-next
returns-in-Err-Stop-clause-next g c =
    let place : LinePlace = record { file = c.args.file; number = c.args.line } in
    let done = rw c.in-Err-Stop.field-0-is at c.in-Err-Stop.ensures in
    rw c.stopped.ensures
    (stop_after place c.in-Err-Stop.stop c.args.self.now c.carry_out_line.new.self _ done.leaves c.requires.waits
    (λ i. record (c.self.view_is i) { ended = c.ends_script-self-inside.ensures i }))

pub returns-in-Err-Stop-clause-files : goal.returns-in-Err-Stop-clause-files
returns-in-Err-Stop-clause-files g c =
    let place : LinePlace = record { file = c.args.file; number = c.args.line } in
    let done = rw c.in-Err-Stop.field-0-is at c.in-Err-Stop.ensures in
    rw c.stopped.ensures
    (reads_as (λ same. let is = stop_unread place c.in-Err-Stop.stop same in rw is refl) done.reads)

pub returns-in-Err-Stop-clause-output : goal.returns-in-Err-Stop-clause-output
returns-in-Err-Stop-clause-output g c =
    let place : LinePlace = record { file = c.args.file; number = c.args.line } in
    let done = rw c.in-Err-Stop.field-0-is at c.in-Err-Stop.ensures in
    rw c.stopped.ensures (writes_as (λ same. absurd (stop_uncut place c.in-Err-Stop.stop Unwritten same)) done.writes)

pub invariant_of-self-in-Err-Stop : goal.invariant_of-self-in-Err-Stop
invariant_of-self-in-Err-Stop g c =
    let workers = c.self.invariant in
    let before : GoesOn c.args.self.now = (c.requires.goes_on, c.requires.unspent, c.requires.open) in
    let done = rw c.in-Err-Stop.field-0-is at c.in-Err-Stop.ensures in (
      λ goes_on.
          subst GoesOn (sym c.self.view_is)
          (stop_goes_on c.in-Err-Stop.stop c.args.self.now c.carry_out_line.new.self done.leaves before
          (sym c.ends_script-self-inside.ensures ∙ goes_on)),
      workers.1,
      workers.2,
    )

pub returns-in-Err-Cut-clause-step : goal.returns-in-Err-Cut-clause-step
returns-in-Err-Cut-clause-step g c = λ held is.
    let place : LinePlace = record { file = c.args.file; number = c.args.line } in
    let done = rw c.in-Err-Cut.field-0-is at c.in-Err-Cut.ensures in
    let written = done.written place held is in
    (written.0, written.1, (written.2, written.3), written.4)

pub returns-in-Err-Cut-clause-next : goal.returns-in-Err-Cut-clause-next
returns-in-Err-Cut-clause-next g c =
    let done = rw c.in-Err-Cut.field-0-is at c.in-Err-Cut.ensures in
    done.leaves ∙ c.requires.waits

pub returns-in-Err-Cut-clause-files : goal.returns-in-Err-Cut-clause-files
returns-in-Err-Cut-clause-files g c =
    let done = rw c.in-Err-Cut.field-0-is at c.in-Err-Cut.ensures in
    reads_as (λ same. cc same) done.reads

pub returns-in-Err-Cut-clause-output : goal.returns-in-Err-Cut-clause-output
returns-in-Err-Cut-clause-output g c =
    let done = rw c.in-Err-Cut.field-0-is at c.in-Err-Cut.ensures in
    writes_as (λ same. cc same) done.writes
