use Rattle.std.proofs.Common.{◌≡◌, ◌∙◌, ◌<◌, ap, length}
use Rattle.std.specs.Prelude.{slice_index_or}
use Rattle.rv_hart.specs.Core.{Core}
use Rattle.board.specs.Inner.Holds.{state_of}
use Rattle.board.proofs.HoldLemmas.{after_below, holds_set, kept_in_turn}
use Rattle.board.proofs.WatchLemmas.{reserved_after}
use Rattle.board.proofs.board.Board.slot_in_turn.Goals as goal

pub invariant_of-self-2 : goal.invariant_of-self-2
invariant_of-self-2 g c =
    let board = c.self.inside in
    let cores = board.harts.items in
    let old = c.index_mut-hart.result.now in
    let is : old ≡ slice_index_or cores board.next old = rw c.from.ensures at c.index_mut-hart.ensures.value in
    let kept = kept_in_turn cores board.next old c.shared_slot-taken.new.hart board.watch c.shared_slot-taken.new.watch
    board.bus c.shared_slot-taken.new.bus c.args.now.0 is c.self.invariant.next c.in-Ok.ensures.ok in
    let count : c.harts.result ≡ length cores =
    c.harts.ensures.value ∙ c.in-Ok.ensures.watch ∙ c.self.invariant.watch in
    let own = c.self.invariant.letters board.next old c.self.invariant.next in
    let reserved = reserved_after board.next old c.shared_slot-taken.new.hart board.watch c.shared_slot-taken.new.watch
    board.bus c.shared_slot-taken.new.bus c.args.now.0 c.in-Ok.ensures.ok
    (ap {A = Core} (λ core. core.letters) is ∙ own) c.self.invariant.reserved in
    let next : c.number_after-self-inside.result < length cores =
    rw (c.number_after-self-inside.ensures, count) (after_below (length cores) board.next c.self.invariant.next) in
    rw c.from.ensures
    (holds_set (state_of cores board.next board.watch board.bus).view c.shared_slot-taken.new.bus.numbers board.next
    c.number_after-self-inside.result old c.shared_slot-taken.new.hart c.shared_slot-taken.new.watch
    c.shared_slot-taken.new.bus.space c.self.invariant kept.0 kept.1 c.self.invariant.next is c.in-Ok.ensures.same
    c.in-Ok.ensures.watch next reserved)
