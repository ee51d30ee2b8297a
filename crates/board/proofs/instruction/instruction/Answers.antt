-- A processor alone does what it does by its own rules.
use Rattle.std.proofs.Common.{◌∙◌, ap, sym, refl}
use Rattle.board.specs.declared.slot.Features.{Features}
use Rattle.board.specs.Inner.Seat.{seat}
use Rattle.board.proofs.SeatLemmas.{alone_done}
use Rattle.board.proofs.instruction.instruction.Goals as goal

pub returns-then-features-2-clause-ok : goal.returns-then-features-2-clause-ok
returns-then-features-2-clause-ok g c =
    let none = sym (ap {A = Features} (λ w. w.shared) c.requires.seat.features) ∙ c.if-features.false in
    alone_done c.alone_as_performed.ensures (seat c.args.number c.args.hart.now c.args.watch.now c.args.bus.now) _
    c.args.lines c.by_halves.result none c.requires.seat refl c.by_halves.ensures.core c.by_halves.ensures.bus
    c.by_halves.ensures.same

pub returns-else-features-2-clause-ok : goal.returns-else-features-2-clause-ok
returns-else-features-2-clause-ok g c =
    let none = sym (ap {A = Features} (λ w. w.shared) c.requires.seat.features) ∙ c.if-features.false in
    alone_done c.alone_as_performed.ensures (seat c.args.number c.args.hart.now c.args.watch.now c.args.bus.now) _
    c.args.lines c.by_words.result none c.requires.seat refl c.by_words.ensures.core c.by_words.ensures.bus
    c.by_words.ensures.same
