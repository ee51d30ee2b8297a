use Rattle.std.proofs.Common.{◌∙◌}
use Rattle.page_ram.proofs.ByteLemmas.{value_at-two, value_at-four, width-four}
use Rattle.page_ram.proofs.ram.PageRam.load_across.Goals as goal

pub returns-then-width-eq2-clause-value : goal.returns-then-width-eq2-clause-value
returns-then-width-eq2-clause-value c =
    let fits = rw c.if-width-eq2.true at c.requires.fits in
    c.from-then-width-eq2.ensures
    ∙ c.from_le_bytes.ensures
    ∙ rw (
      c.byte-then-width-eq2.ensures,
      c.byte-then-width-eq2-2.ensures,
      c.if-width-eq2.true,
    ) (value_at-two _ _ fits)

pub returns-else-width-eq2-clause-value : goal.returns-else-width-eq2-clause-value
returns-else-width-eq2-clause-value c =
    let four = width-four _ c.requires.width c.if-width-eq1.false c.if-width-eq2.false in
    let fits = rw (← four) at c.requires.fits in
    c.from_le_bytes-else-width-eq2.ensures
    ∙ rw (
      c.byte-else-width-eq2.ensures,
      c.byte-else-width-eq2-2.ensures,
      c.byte-else-width-eq2-3.ensures,
      c.byte-else-width-eq2-4.ensures,
      ← four,
    ) (value_at-four _ _ fits)
