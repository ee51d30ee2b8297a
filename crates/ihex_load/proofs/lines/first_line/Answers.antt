-- The first line, by where the first line feed stands.
use Rattle.std.proofs.Common.{◌≡◌, ◌∙◌, ◌+◌, ◌-◌, Some, sym, length, drop, arith}
use Rattle.std.specs.List.{position}
use Rattle.std.proofs.lemmas.List.{take_all, length-drop}
use Rattle.lab_num.proofs.LineLemmas.{feed}
use Rattle.ihex_load.proofs.LineLemmas.{first_line, sole_line}
use Rattle.ihex_load.proofs.lines.first_line.Goals as goal

pub returns-in-Some-clause-lines : goal.returns-in-Some-clause-lines
returns-in-Some-clause-lines c =
    let text = c.args.text.now in
    let n = c.in-Some.n in
    let found : position feed text ≡ Some n = sym c.feed_of.ensures ∙ c.in-Some.is in
    rw (take_all (length text - (n + 1)) (drop (n + 1) text) (simp length-drop (omega arith)), c.without_return.ensures)
    (first_line n text found)

pub returns-in-None-clause-lines : goal.returns-in-None-clause-lines
returns-in-None-clause-lines c = sole_line c.args.text.now c.requires (sym c.feed_of.ensures ∙ c.in-None.is)
