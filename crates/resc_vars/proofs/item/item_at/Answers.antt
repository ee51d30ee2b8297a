-- A macro, by where its body begins.
use Rattle.std.proofs.Common.{◌∙◌, ap, sym}
use Rattle.resc_vars.specs.declared.item.Item.TheVariants.{Malformed}
use Rattle.resc_vars.specs.declared.item.Line.{Line}
use Rattle.resc_vars.proofs.RestLemmas.{begun_follows, ends_join, no_macro, macro_is_item, skips_none}
use Rattle.resc_vars.proofs.item.item_at.Goals as goal

pub macro_item-requires-clause-ends : goal.macro_item-requires-clause-ends
macro_item-requires-clause-ends c =
    let begins = rw c.in-Some.is at c.begun.ensures in
    ends_join _ c.args.rest.text.now c.in-Some.body.text.now c.requires.ends
    (begun_follows _ c.args.rest c.in-Some.body begins).0

pub returns-in_ok-line_of-in-None : goal.returns-in_ok-line_of-in-None
returns-in_ok-line_of-in-None c =
    let line : Line = record { number = c.args.number; text = c.args.line.now } in
    let begins = rw c.in-None.is at c.begun.ensures in
    let form = sym c.in_ok-form_of.ensures ∙ c.in-Macro.is in (
      0,
      no_macro line _ _ c.args.rest form begins ∙ ap (λ x. (Malformed x, 0)) (sym c.in_ok-line_of-in-None.ensures),
      skips_none c.args.rest c.requires.fit,
    )

pub returns-in-Some : goal.returns-in-Some
returns-in-Some c =
    let line : Line = record { number = c.args.number; text = c.args.line.now } in
    let begins = rw c.in-Some.is at c.begun.ensures in
    let form = sym c.in_ok-form_of.ensures ∙ c.in-Macro.is in
    macro_is_item line _ _ c.args.rest c.in-Some.body c.macro_item.result form begins c.macro_item.ensures
