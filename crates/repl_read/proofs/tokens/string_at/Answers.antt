-- A string, from the place of its first quote in the line.
use Rattle.std.proofs.Common.{◌≡◌, ◌+◌, ◌-◌, ◌<◌, drop, length, arith}
use Rattle.std.proofs.lemmas.List.{take_rest, length-drop}
use Rattle.repl_read.proofs.TokenLemmas.{quote_end, unclosed_step, string_step}
use Rattle.repl_read.proofs.tokens.string_at.Goals as goal

pub returns-then-last-line : goal.returns-then-last-line
returns-then-last-line c =
    unclosed_step c.args.line.now c.args.start c.string_length.result c.requires.inside c.requires.string
    (rw (c.as_bytes.ensures.value, take_rest c.args.line.now (c.args.start + 1)) at c.string_length.ensures.string)
    (omega arith)

pub range-requires-clause-start_boundary : goal.range-requires-clause-start_boundary
range-requires-clause-start_boundary c =
    λ some. quote_end c.args.line.now c.args.start c.utf8.line c.requires.inside c.requires.string

pub returns : goal.returns
returns c =
    let rest = take_rest c.args.line.now (c.args.start + 1) in
    let within = rw (c.as_bytes.ensures.value, rest) at c.string_length.ensures.within in
    let inside : c.string_length.result < length (drop (c.args.start + 1) c.args.line.now) =
    omega (arith, within, length-drop (c.args.start + 1) c.args.line.now) in
    let width : c.args.start + 1 + c.string_length.result - (c.args.start + 1) ≡ c.string_length.result = omega arith in
    string_step c.args.line.now c.in_ok-words.words c.args.start c.string_length.result c.requires.inside
    c.requires.string inside
    (rw (c.as_bytes.ensures.value, rest) at c.string_length.ensures.string)
    (rw (c.as_bytes.ensures.value, rest) at c.string_length.ensures.ends inside)
    (rw (c.range.ensures.value, width) at (c.in_ok-words.ensures {u = tt}))
