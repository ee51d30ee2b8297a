use Rattle.std.proofs.Common.{◌∙◌, refl, rules}
use Rattle.board_space.proofs.LineLemmas.{later_lines}
use Rattle.board_space.proofs.space.Space.lines_later.Goals as goal

pub returns-clause-lines : goal.returns-clause-lines
returns-clause-lines g c =
    let r = c.in_ok-remembered.remembered in
    c.lines.ensures
    ∙ rw c.self.view_is at (later_lines _ _ r
    (record { at = c.args.now; timer = c.is_timer_up-timer.result; mips = r.mips; mtime = c.mtime.result })
    c.args.hart c.self.invariant.3 (c.in_ok-remembered.was {u = tt}) (search rules)
    (rw (← c.self.view_is) at c.is_timer_up-timer.ensures) refl (rw (← c.self.view_is) at c.mtime.ensures)
    (rw (← c.self.view_is) at c.requires))
