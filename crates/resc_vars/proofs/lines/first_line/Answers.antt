-- The first line, by where a text is cut.
use Rattle.std.proofs.Common.{◌≡◌, ◌∙◌, Some, None, sym, ap, rules}
use Rattle.std.proofs.lemmas.List.{append-nil}
use Rattle.std.specs.Option.{option_map}
use Rattle.lab_num.specs.Time.{cut}
use Rattle.resc_vars.proofs.LineLemmas.{cut_lines, cut_ends, uncut_lines}
use Rattle.resc_vars.proofs.lines.first_line.Goals as goal

pub returns-in-Some-clause-some : goal.returns-in-Some-clause-some
returns-in-Some-clause-some c =
    let is : cut 10 c.args.text.now ≡ Some (c.in-Some.line.now, c.in-Some.rest.now) =
    sym c.cut.ensures ∙ ap (option_map (λ x. (x.0.now, x.1.now))) c.in-Some.is in
    rw c.without_return.ensures (cut_lines c.args.text.now c.in-Some.line.now c.in-Some.rest.now is)

pub returns-in-Some-clause-ends : goal.returns-in-Some-clause-ends
returns-in-Some-clause-ends c =
    let is : cut 10 c.args.text.now ≡ Some (c.in-Some.line.now, c.in-Some.rest.now) =
    sym c.cut.ensures ∙ ap (option_map (λ x. (x.0.now, x.1.now))) c.in-Some.is in
    cut_ends c.args.text.now c.in-Some.line.now c.in-Some.rest.now is

pub returns-in-None-2-clause-some : goal.returns-in-None-2-clause-some
returns-in-None-2-clause-some c =
    let is : cut 10 c.args.text.now ≡ None =
    sym c.cut.ensures ∙ ap (option_map (λ x. (x.0.now, x.1.now))) c.in-None.is in
    uncut_lines c.args.text.now (search rules) is

pub returns-in-None-2-clause-ends : goal.returns-in-None-2-clause-ends
returns-in-None-2-clause-ends c = (c.args.text.now, sym (append-nil c.args.text.now))
