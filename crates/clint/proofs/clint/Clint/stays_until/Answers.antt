use Rattle.std.proofs.Common.{◌≡◌, ◌+◌, ◌<◌, ◌∙◌, sym, ap, arith}
use Rattle.clint.specs.Clint.{Timer, mtime}
use Rattle.clint.specs.Mtime.{ticks}
use Rattle.clint.proofs.ChangeLemmas.{later, still-below, still-above}
use Rattle.clint.proofs.clint.Clint.stays_until.Goals as goal
use Rattle.clint.proofs.clint.Clint.stays_until.Goals.{then-shown-compared, else-shown-compared}

pub returns-clause-later : goal.returns-clause-later
returns-clause-later c =
    let rises = c.all_ticks.result + c.if-shown-compared.left in
    let below : ticks c.self.inside.frequency c.args.now < rises =
    elim c.if-shown-compared.branch [
      | then-shown-compared w ↦ omega (
        arith,
        c.all_ticks.ensures.value,
        w.left-is,
        w.from-left.ensures,
        w.if-shown-compared.true,
      )
      | else-shown-compared w ↦ omega (arith, c.all_ticks.ensures.value, w.left-is, w.from.ensures)
    ] in
    later _ _ rises _ below c.micros_until.ensures.reached

pub returns-clause-still : goal.returns-clause-still
returns-clause-still c =
    let timer : Timer = record { frequency = c.self.inside.frequency; state = c.self.inside.state } in
    let now = c.args.now in
    let shown : c.mtime-shown.result ≡ mtime timer now =
    c.mtime-shown.ensures ∙ ap (λ s. mtime s now) (sym c.self.view_is) in
    rw (← c.self.view_is) (elim c.if-shown-compared.branch [
      | then-shown-compared w ↦ still-below timer now _ (omega arith) (rw shown at w.if-shown-compared.true)
          (λ t before. rw (c.all_ticks.ensures.value, w.left-is, w.from-left.ensures, shown)
          at c.micros_until.ensures.before t before)
      | else-shown-compared w ↦ still-above timer now _ (rw shown at w.if-shown-compared.false)
          (λ t before. rw (c.all_ticks.ensures.value, w.left-is, w.from.ensures, shown)
          at c.micros_until.ensures.before t before)
    ])
