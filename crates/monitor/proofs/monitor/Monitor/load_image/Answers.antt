use Rattle.std.proofs.Common.{◌≡◌, ◌∙◌, ap, refl, sym, true}
use Rattle.std.specs.Prelude.{IsTrue}
use Rattle.std.specs.List.{list_all}
use Rattle.monitor.specs.Images.{holds_part, is_entry, with_entry, with_parts}
use Rattle.monitor.proofs.ImageLemmas.{changed_more, entry_still, for_changed, image_rules, some_changed}
use Rattle.monitor.proofs.monitor.Monitor.load_image.Goals as goal

pub set_entry-requires-clause-has_plan : goal.set_entry-requires-clause-has_plan
set_entry-requires-clause-has_plan g c =
    some_changed c.args.self.now.state.lab c.load_parts.new.self.state.lab c.args.b.0
    (λ v. with_parts v c.items-parts.result.now) (ap (λ running. running.state.lab) c.in_ok-load_parts.ensures.ok)
    c.requires.has_plan

pub set_entry-requires-clause-is_entry : goal.set_entry-requires-clause-is_entry
set_entry-requires-clause-is_entry g c =
    let entry = c.args.image.now.entry in
    let parts = c.items-parts.result.now in
    for_changed c.args.self.now.state.lab c.load_parts.new.self.state.lab c.args.b.0 (λ v. with_parts v parts)
    (λ v. IsTrue (is_entry v entry)) (ap (λ running. running.state.lab) c.in_ok-load_parts.ensures.ok)
    (λ v seen. entry_still parts v entry ∙ (sym (c.is_entry.ensures v seen) ∙ c.if-not-is_entry.false))

pub returns : goal.returns
returns g c = λ v seen.
    let image = c.args.image.now in
    let held : list_all (holds_part v) c.items-parts.result.now ≡ true =
    sym (c.holds_parts.ensures v seen) ∙ c.if-not-holds_parts.false in
    let begins : is_entry v image.entry ≡ true = sym (c.is_entry.ensures v seen) ∙ c.if-not-is_entry.false in
    image_rules c.args.self.now c.set_entry.new.self c.args.b.0 v image c.new.result.items c.requires.unspent
    (rw (← c.items-parts.ensures, held, begins) refl)
    (changed_more c.args.b.0 (λ v. with_parts v c.items-parts.result.now) (λ v. with_entry v image.entry) _
    c.args.self.now c.load_parts.new.self c.set_entry.new.self (λ v. rw c.items-parts.ensures refl)
    c.in_ok-load_parts.ensures.ok c.set_entry.ensures)
    c.new.ensures.items
