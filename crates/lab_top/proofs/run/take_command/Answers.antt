use Rattle.std.proofs.Common.{rules, suc}
use Rattle.lab_state.specs.Run.{run}
use Rattle.lab_top.specs.Transcript.{from}
use Rattle.lab_top.specs.Inner.Lent.{told_of}
use Rattle.lab_top.proofs.run.take_command.Goals as goal

pub returns-in-Ok-None-clause-course : goal.returns-in-Ok-None-clause-course
returns-in-Ok-None-clause-course g c = λ held is kept keeps more.
    rw (c.in-Ok-None.is, c.in-Ok-None.field-0-is) at (c.try_command.ensures.course held is kept keeps more)

pub returns-in-Ok-Some-clause-course : goal.returns-in-Ok-Some-clause-course
returns-in-Ok-Some-clause-course g c = λ held is kept keeps more.
    let before = told_of g.F.Files g.K.Sink g.S.Store c.args.outside.now in
    let tried = rw (c.in-Ok-Some.is, c.in-Ok-Some.field-0-is) at
    (c.try_command.ensures.course held is kept keeps more) in
    c.take_back.ensures.course kept tried.0 (from (suc more) run held kept c.args.monitor.state) (from more run held)
    before (g.F.Files.asked c.try_command.new.files) tried.1

pub returns-in-Err-clause-outside : goal.returns-in-Err-clause-outside
returns-in-Err-clause-outside g c = record {
  files_same = search rules;
  out_same = search rules;
  store_same = search rules;
  reads = search rules;
  writes = search rules;
  stores = search rules;
}
