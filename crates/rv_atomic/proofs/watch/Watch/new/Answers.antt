-- A part of a list of nothing.
use Rattle.std.specs.Prelude.{None}
use Rattle.std.proofs.lemmas.List.{take-replicate}
use Rattle.rv_atomic.proofs.watch.Watch.new.Goals as goal

pub returns : goal.returns
returns c = take-replicate c.args.harts 4 None c.requires.most
