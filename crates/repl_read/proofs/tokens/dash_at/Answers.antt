-- A dash, by the sign after it.
use Rattle.std.proofs.Common.{◌+◌}
use Rattle.std.proofs.lemmas.List.{take_rest}
use Rattle.repl_read.proofs.TokenLemmas.{arrow_step, dash_step}
use Rattle.repl_read.proofs.tokens.dash_at.Goals as goal

pub returns-then-first_byte-eq62 : goal.returns-then-first_byte-eq62
returns-then-first_byte-eq62 c =
    arrow_step c.args.line.now c.args.start c.requires.inside c.requires.dash
    (rw (← take_rest c.args.line.now (c.args.start + 1), ← c.first_byte.ensures) c.if-first_byte-eq62.true)

pub returns-else-first_byte-eq62 : goal.returns-else-first_byte-eq62
returns-else-first_byte-eq62 c =
    dash_step c.args.line.now c.args.start c.requires.inside c.requires.dash
    (rw (← take_rest c.args.line.now (c.args.start + 1), ← c.first_byte.ensures) c.if-first_byte-eq62.false)
