use Rattle.board_space.proofs.FitLemmas.{fit_new}
use Rattle.board_space.proofs.space.Space.new.Goals as goal

pub invariant_of-result : goal.invariant_of-result
invariant_of-result g c = (
  c.requires.regions,
  rw (c.requires.memories, c.timer_of.ensures, c.controller_of.ensures, c.fit_all.ensures, c.requires.devices)
      (fit_new c.args.plan c.requires.plan),
  c.is_wired.ensures,
  tt,
)
