use Rattle.std.proofs.Common.{◌≡◌, ◌∙◌, List, sym, subst, get_or}
use Rattle.log_text.specs.declared.line.OpenLine.{OpenLine}
use Rattle.log_text.proofs.Rising.{absent_own, absent_others, others_unended, taken_own, taken_others}
use Rattle.log_text.proofs.lines.Lines.take_out.Goals as goal

pub invariant_of-self-2 : goal.invariant_of-self-2
invariant_of-self-2 c =
    let held : c.self.inside.lines.items ≡ c.args.self.now = c.self.view_is in
    let stands = sym c.stands_at.ensures ∙ c.if-not-stands_at.false in
    rw (
      c.remove.ensures.items,
      held,
      taken_others c.args.member c.args.self.now c.args.place c.requires.place c.requires.unended stands,
    ) (others_unended c.args.member c.args.self.now c.requires.unended)

pub returns-then-not-stands_at-clause-line : goal.returns-then-not-stands_at-clause-line
returns-then-not-stands_at-clause-line c =
    c.blank.ensures
    ∙ absent_own c.args.member c.args.self.now c.args.place c.requires.place c.requires.unended
    (sym c.stands_at.ensures ∙ c.if-not-stands_at.true)

pub returns-then-not-stands_at-clause-lines : goal.returns-then-not-stands_at-clause-lines
returns-then-not-stands_at-clause-lines c =
    c.self.view_is
    ∙ absent_others c.args.member c.args.self.now c.args.place c.requires.place c.requires.unended
    (sym c.stands_at.ensures ∙ c.if-not-stands_at.true)

pub returns-clause-line : goal.returns-clause-line
returns-clause-line c =
    let held : c.self.inside.lines.items ≡ c.args.self.now = c.self.view_is in
    taken_own c.args.member c.args.self.now c.args.place c.requires.place c.requires.unended c.remove.result
    (sym c.stands_at.ensures ∙ c.if-not-stands_at.false)
    (subst (λ (lines : List OpenLine). c.remove.result ≡ get_or lines c.args.place c.remove.result) held
    c.remove.ensures.value)

pub returns-clause-lines : goal.returns-clause-lines
returns-clause-lines c =
    let held : c.self.inside.lines.items ≡ c.args.self.now = c.self.view_is in
    c.remove.ensures.items
    ∙ rw held (taken_others c.args.member c.args.self.now c.args.place c.requires.place c.requires.unended
    (sym c.stands_at.ensures ∙ c.if-not-stands_at.false))
