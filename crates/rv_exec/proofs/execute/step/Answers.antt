-- What is found may be performed.
use Rattle.rv_exec.proofs.execute.step.Goals as goal

pub perform-requires : goal.perform-requires
perform-requires g c = c.find-what.ensures.performable c.args.hart.now.letters
