use Rattle.std.proofs.Common.{◌∙◌, arith}
use Rattle.board_space.proofs.LineLemmas.{few_harts, lines_are_read, still_has}
use Rattle.board_space.proofs.space.Space.sample.Goals as goal

pub invariant_of-self : goal.invariant_of-self
invariant_of-self g c = (
  c.self.invariant.0,
  c.self.invariant.1,
  c.self.invariant.2,
  (
    rw (← c.self.view_is) at c.sample_sources.ensures.settled,
    rw (← c.self.view_is) at c.read_lines-remembered.ensures.read,
  ),
)

pub lines-requires : goal.lines-requires
lines-requires g c =
    let below = still_has _ _ c.args.hart (c.self.view_is ∙ c.sample_sources.ensures.after) c.requires in
    omega (arith, few_harts _ c.self.invariant.1, below)

pub returns-clause-lines : goal.returns-clause-lines
returns-clause-lines g c =
    let read = rw (← c.self.view_is) at c.read_lines-remembered.ensures.read in
    let below = still_has _ _ c.args.hart (c.self.view_is ∙ c.sample_sources.ensures.after) c.requires in
    rw c.read_lines-remembered.ensures.at at (c.lines.ensures ∙ lines_are_read _ _ c.args.hart read below)
