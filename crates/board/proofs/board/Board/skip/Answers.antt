use Rattle.std.proofs.Common.{◌≡◌, ◌∙◌, sym, ap, length, refl}
use Rattle.std.proofs.Math.Nat.{add-mod-mod}
use Rattle.board.proofs.board.Board.skip.Goals as goal

pub returns : goal.returns
returns g c =
    let count : length c.items.result.now ≡ length c.args.self.now.view.cores =
    ap length c.items.ensures ∙ sym c.plan.ensures.harts in
    rw (count, c.from.ensures, add-mod-mod, ← c.self.view_is) refl
