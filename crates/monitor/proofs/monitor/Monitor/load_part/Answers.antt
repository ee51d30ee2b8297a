use Rattle.std.proofs.Common.{◌≡◌, ◌∙◌, ◌+◌, ap, arith, length, refl, sym, Some, true, subst}
use Rattle.std.specs.Prelude.{IsSome}
use Rattle.page_ram.specs.Bytes.{zeros}
use Rattle.board.specs.Changes.{holds_each, with_bytes}
use Rattle.board.specs.View.{View}
use Rattle.lab_state.specs.One.{changed, view_of}
use Rattle.monitor.specs.Images.{with_part}
use Rattle.monitor.proofs.ImageLemmas.{changed_more, changed_same, for_changed, part_numbers}
use Rattle.monitor.proofs.ImageLemmas.{part_of_pieces, part_pieces}
use Rattle.monitor.proofs.ImageLemmas.{part_without_zeros, some_changed, still_held}
use Rattle.monitor.proofs.monitor.Monitor.load_part.Goals as goal
use Rattle.monitor.proofs.monitor.Monitor.load_part.Goals.{then-part-gt0, else-part-gt0}

pub copy_in-requires-clause-holds : goal.copy_in-requires-clause-holds
copy_in-requires-clause-holds g c = λ v seen.
    let there : view_of c.args.self.now.state.lab c.args.b.0 ≡ Some v = rw (← c.self.view_is) seen in
    rw c.items-bytes.ensures (part_pieces v c.args.part.now (c.requires.holds v there)).2

pub overflow_cast-bytes : goal.overflow_cast-bytes
overflow_cast-bytes g c =
    let numbers = part_numbers (view_of c.args.self.now.state.lab c.args.b.0) c.args.part.now c.requires.has_plan
    c.requires.holds in
    rw c.items-bytes.ensures (grind (arith, numbers.0))

pub overflow_add-part : goal.overflow_add-part
overflow_add-part g c =
    let numbers = part_numbers (view_of c.args.self.now.state.lab c.args.b.0) c.args.part.now c.requires.has_plan
    c.requires.holds in
    rw c.items-bytes.ensures (grind (arith, numbers.1, c.if-part-gt0.true))

pub zero-requires-clause-has_plan : goal.zero-requires-clause-has_plan
zero-requires-clause-has_plan g c =
    some_changed c.self.inside.lab.lab c.copy_in.new.self.lab c.args.b.0
    (λ v. with_bytes v c.args.part.now.at c.items-bytes.result.now) (ap (λ seen. seen.lab) c.in_ok-copy_in.ensures.ok)
    (subst (λ running. IsSome (view_of running.state.lab c.args.b.0)) (sym c.self.view_is) c.requires.has_plan)

pub zero-requires-clause-holds : goal.zero-requires-clause-holds
zero-requires-clause-holds g c =
    let part = c.args.part.now in
    for_changed c.self.inside.lab.lab c.copy_in.new.self.lab c.args.b.0
    (λ v. with_bytes v part.at c.items-bytes.result.now)
    (λ v. holds_each v.space (part.at + length c.items-bytes.result.now) part.zeros ≡ true)
    (ap (λ seen. seen.lab) c.in_ok-copy_in.ensures.ok)
    (λ v seen.
    let there : view_of c.args.self.now.state.lab c.args.b.0 ≡ Some v = rw (← c.self.view_is) seen in
    still_held v.space part.at c.items-bytes.result.now (part.at + length c.items-bytes.result.now) part.zeros
    ∙ rw c.items-bytes.ensures (part_pieces v part (c.requires.holds v there)).3)

pub returns-clause-ok : goal.returns-clause-ok
returns-clause-ok g c =
    let b = c.args.b.0 in
    let part = c.args.part.now in
    let old = c.args.self.now in
    let copied : View → View = λ v. with_bytes v part.at part.bytes in
    elim c.if-part-gt0.branch [
      | then-part-gt0 w ↦
          rw w.self-is
          (changed_more b copied (λ v. with_bytes v (part.at + length part.bytes) (zeros part.zeros))
          (λ v. with_part v part) old
          (record old { state = record old.state { lab = changed old.state.lab b copied } })
          _ (λ v. part_of_pieces v part) refl
          (rw (← c.self.view_is, w.zero.ensures, c.in_ok-copy_in.ensures.ok, c.items-bytes.ensures) refl))
      | else-part-gt0 w ↦
          let none : part.zeros ≡ 0 = grind (arith, w.if-part-gt0.false) in
          rw w.self-is
          (changed_same b copied (λ v. with_part v part) old _ (λ v. part_without_zeros v part none)
          (rw (← c.self.view_is, c.in_ok-copy_in.ensures.ok, c.items-bytes.ensures) refl))
    ]
