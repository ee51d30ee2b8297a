use Rattle.std.proofs.Common.{arith}
use Rattle.probe_drive.proofs.SlotLemmas.{one_passes}
use Rattle.probe_drive.proofs.pass_idle.Goals as goal

pub returns-clause-passed : goal.returns-clause-passed
returns-clause-passed g c some =
    one_passes g.J.Job.meaning g.J.Job.sent g.J.Job.state_after g.J.Timed.idled c.args.jobs.now.items c.args.place
    c.index_mut.result.now c.pass.new.self c.pass.result c.requires.within c.requires.sent c.index_mut.ensures.value
    (omega (arith, c.pass.ensures.most)) (c.pass.ensures.idle some) c.pass.ensures.passed c.pass.ensures.sent
