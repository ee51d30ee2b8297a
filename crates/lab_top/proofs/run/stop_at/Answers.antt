use Rattle.std.proofs.Common.{◌≡◌}
use Rattle.lab_io.specs.Known.{grown}
use Rattle.lab_io.specs.Sink.{IsPartWritten}
use Rattle.lab_state.specs.Names.{names}
use Rattle.log_text.specs.Log.{rest}
use Rattle.lab_top.proofs.Pieces.{part_of_first}
use Rattle.lab_top.proofs.Courses.{end_cut, end_after}
use Rattle.lab_top.proofs.run.stop_at.Goals as goal

pub returns-in-Err-clause-course : goal.returns-in-Err-clause-course
returns-in-Err-clause-course g c =
    let part : IsPartWritten (g.K.Sink.written c.args.out.now) (rest (names c.args.monitor.now.state.lab)
    c.args.monitor.now.state.lines) (g.K.Sink.written c.write_whole.new.out) =
    rw (← c.in-Ok.ensures.text, ← c.deref.ensures.value) c.in-Err.ensures.part in
    rw c.from.ensures (end_cut _ _ _ _ _ (part_of_first _ _ _ _ part))

pub returns-clause-course : goal.returns-clause-course
returns-clause-course g c =
    let whole : g.K.Sink.written c.write_whole.new.out ≡ grown (g.K.Sink.written c.args.out.now)
    (rest (names c.args.monitor.now.state.lab) c.args.monitor.now.state.lines) =
    rw (← c.in-Ok.ensures.text, ← c.deref.ensures.value) c.in_default-write_whole.ensures.whole in
    end_after _ _ _ _ _ _ whole c.tell.ensures.course
