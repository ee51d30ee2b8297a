-- The line at which the first item stands.
use Rattle.std.proofs.Common.{◌≡◌, ◌∙◌, sym, true, false}
use Rattle.resc_vars.specs.declared.item.Line.{Line}
use Rattle.resc_vars.specs.Form.{is_passed}
use Rattle.resc_vars.proofs.RestLemmas.{ends_join, follows_join, item_first, item_follows, item_passed}
use Rattle.resc_vars.proofs.item.first_item.Goals as goal

pub item_at-requires-clause-ends : goal.item_at-requires-clause-ends
item_at-requires-clause-ends c =
    let later = follows_join c.args.lines c.loop-line.rest c.in-Some.later c.loop-line.invariant.follows
    c.in-Some.ensures.follows in
    ends_join _ c.args.lines.text.now c.in-Some.later.text.now c.requires.ends later.0

pub returns-then-not-is_passed : goal.returns-then-not-is_passed
returns-then-not-is_passed c =
    let line : Line = record { number = c.loop-line.rest.number; text = c.in-Some.line.now } in
    let kept : is_passed line.text ≡ false = sym c.is_passed.ensures ∙ c.if-not-is_passed.true in
    let later = follows_join c.args.lines c.loop-line.rest c.in-Some.later c.loop-line.invariant.follows
    c.in-Some.ensures.follows in
    let found = c.in_ok-item_at.field-0 in (
      c.loop-line.invariant.passed
          ∙ item_first line c.loop-line.rest c.in-Some.later found c.in-Some.ensures.some kept c.in_ok-item_at.ensures,
      follows_join c.args.lines c.in-Some.later found.1 later
          (item_follows line c.in-Some.later found c.in_ok-item_at.ensures),
    )

pub loop-line-preserved : goal.loop-line-preserved
loop-line-preserved c =
    let line : Line = record { number = c.loop-line.rest.number; text = c.in-Some.line.now } in
    let passed : is_passed line.text ≡ true = sym c.is_passed.ensures ∙ c.if-not-is_passed.false in
    record {
      follows =
          follows_join c.args.lines c.loop-line.rest c.in-Some.later c.loop-line.invariant.follows
          c.in-Some.ensures.follows;
      passed = c.loop-line.invariant.passed ∙ item_passed line _ _ c.in-Some.ensures.some passed;
    }
