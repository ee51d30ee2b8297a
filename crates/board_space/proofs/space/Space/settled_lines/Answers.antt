use Rattle.std.proofs.Common.{◌≡◌, ◌∙◌, rules}
use Rattle.board_space.proofs.LineLemmas.{lines_are_remembered}
use Rattle.board_space.proofs.space.Space.settled_lines.Goals as goal

pub returns-then-eq-clause-lines : goal.returns-then-eq-clause-lines
returns-then-eq-clause-lines g c =
    let at : c.in-Some.remembered.at ≡ c.args.now = search rules in
    let read = lines_are_remembered _ _ c.in-Some.remembered c.args.hart c.self.invariant.3 c.in-Some.is
    (rw (← c.self.view_is) at c.requires) in
    c.lines.ensures ∙ rw (c.self.view_is, at) at read.1
