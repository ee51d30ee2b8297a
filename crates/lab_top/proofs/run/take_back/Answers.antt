use Rattle.std.proofs.Common.{Err}
use Rattle.monitor.specs.Step.{line_in}
use Rattle.lab_top.specs.Inner.Stored.{lent, store_of}
use Rattle.lab_top.proofs.run.take_back.Goals as goal

pub returns-in-Ok-clause-course : goal.returns-in-Ok-clause-course
returns-in-Ok-clause-course g c = λ kept keeps all further old asked then.
    let place = line_in c.args.line.file c.args.line.line in
    let stored = store_of g.S.Store (g.K.Sink.written c.args.out.now) asked c.fetch.new.store in
    c.go_on.ensures.course all kept further old stored
    (then stored c.restore-stored.result
    ((rw (c.as_str.ensures, c.in-Ok.is) at (c.fetch.ensures.fetched kept keeps further place
    (g.K.Sink.written c.args.out.now) asked))
    c.restore-stored.result (rw c.deref.ensures.value at c.restore-stored.ensures.restored)))

pub returns-in-Err-clause-course : goal.returns-in-Err-clause-course
returns-in-Err-clause-course g c = λ kept keeps all further old asked then.
    let place = line_in c.args.line.file c.args.line.line in
    let stored = store_of g.S.Store (g.K.Sink.written c.args.out.now) asked c.fetch.new.store in
    c.stop_by.ensures.course all kept further old stored
    (then stored (lent c.args.monitor (Err c.in-Err.halt))
    (rw (c.as_str.ensures, c.in-Err.is) at (c.fetch.ensures.fetched kept keeps further place
    (g.K.Sink.written c.args.out.now) asked)))
