use Rattle.std.proofs.Common.{◌∙◌, sym}
use Rattle.board.proofs.IdleLemmas.{idle_by}
use Rattle.board.proofs.board.Board.is_idle.Goals as goal

pub returns-in-Some-clause-idle : goal.returns-in-Some-clause-idle
returns-in-Some-clause-idle g c = λ idle.
    rw (← c.self.view_is, ← c.self-inside.view_is)
    (idle_by _ _ c.args.hart c.args.now.0 c.index.result.now c.in-Some.lines
    (rw (← c.self.view_is, ← c.self-inside.view_is) at c.requires.hart) (rw c.from.ensures at c.index.ensures)
    (c.in-Some.ensures {u = tt}).lines (sym c.is_idle.ensures ∙ idle))
