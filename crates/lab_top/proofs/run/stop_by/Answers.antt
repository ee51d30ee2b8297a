use Rattle.monitor.specs.Step.{line_in}
use Rattle.lab_top.proofs.Onward.{refused_ends}
use Rattle.lab_top.proofs.run.stop_by.Goals as goal

pub returns-in-Refused-clause-course : goal.returns-in-Refused-clause-course
returns-in-Refused-clause-course g c = λ all kept further old mid on.
    refused_ends all kept old mid (line_in c.args.file c.args.line) c.in-Refused.cause c.args.monitor.now
    c.stop_at.result (g.K.Sink.written c.args.out.now) (g.K.Sink.written c.stop_at.new.out)
    (rw c.in-Refused.is at on) c.stop_at.ensures.course
