use Rattle.monitor.specs.Step.{line_in}
use Rattle.lab_top.proofs.Onward.{refused_ends}
use Rattle.lab_top.proofs.run.go_on.Goals as goal

pub returns-in-Err-Refused-clause-course : goal.returns-in-Err-Refused-clause-course
returns-in-Err-Refused-clause-course g c = λ all kept further old mid on.
    refused_ends all kept old mid (line_in c.args.file c.args.line) c.in-Err-Refused.cause c.in-Err-Refused.monitor
    c.stop_at.result (g.K.Sink.written c.args.out.now) (g.K.Sink.written c.stop_at.new.out)
    (rw (c.in-Err-Refused.is, c.in-Err-Refused.field-0-is) at on) c.stop_at.ensures.course
