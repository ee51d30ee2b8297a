use Rattle.std.proofs.Common.{◌∙◌, ap, sym, subst}
use Rattle.page_ram.specs.Bytes.{zeros}
use Rattle.board.specs.declared.board.Board.TheInside.{Inside}
use Rattle.board.specs.Inner.Holds.{Holds, state_of}
use Rattle.board_space.specs.Space.{Space}
use Rattle.board_space.proofs.CopyLemmas.{plan-copied}
use Rattle.board.proofs.HoldLemmas.{holds_cleared}
use Rattle.board.proofs.board.Board.zero.Goals as goal

pub invariant_of-self : goal.invariant_of-self
invariant_of-self g c =
    let held = subst (λ (b : Inside g.row.D.Denot). Holds (state_of b.harts.items b.next b.watch b.bus).view)
    (sym c.self-inside.view_is) c.self.invariant in
    holds_cleared _ c.clear.new.self c.zero.new.self held
    (ap {A = Space} (λ s. s.plan) c.zero.ensures ∙ plan-copied _ c.args.at (zeros c.args.count)) c.clear.ensures
