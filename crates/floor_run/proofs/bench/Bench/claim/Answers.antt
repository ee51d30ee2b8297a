use Rattle.std.proofs.Common.{rules, ◌≡◌, length, Some, None, ap, ◌∙◌, arith}
use Rattle.floor_run.specs.Bench.{BenchModel, HandModel}
use Rattle.floor_run.proofs.StepLemmas.{claim_keeps}
use Rattle.floor_run.proofs.TurnLemmas.{front}
use Rattle.floor_run.proofs.bench.Bench.claim.Goals as goal

pub fetch_or-found-requires : goal.fetch_or-found-requires
fetch_or-found-requires g c =
    let v = c.hand.inside.seat.me.0 in
    let n = ap (λ (b : BenchModel g.row.J.Denot). length b.starts) c.self.view_is in
    let starts = ap (λ (h : HandModel g.row.J.Denot). h.sees.starts) c.hand.view_is ∙ c.requires.hand.0.1 in
    let m = ap (length {A = g.row.J.Denot}) starts in
    let is = c.from-index.ensures in
    let near = c.requires.board in
    let held = ap (λ (h : HandModel g.row.J.Denot). h.sees.held) c.hand.view_is in
    let empty : v.held ≡ None = held ∙ c.requires.hand.1 in (
      search rules,
      omega (arith, c.self.invariant.0),
      claim_keeps _ _ _ _ _ _ _ (c.hand.invariant.0.live) empty (omega arith),
    )

pub exchange-requires : goal.exchange-requires
exchange-requires g c =
    let odd = c.if-found-eq1.false in
    let won = c.fetch_or-found.ensures.2.0 (omega arith) in (
      search rules,
      (
        Some won.2.1,
        front _ c.hand.inside.seat.me.1 won.0 c.from-index.result (Some won.2.1) (ap (λ m. m.1) won.2.7)
            (omega (arith, won.1)),
      ),
    )
