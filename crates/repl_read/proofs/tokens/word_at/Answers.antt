-- A word, from its place in the line.
use Rattle.std.proofs.Common.{◌≡◌, ◌+◌, ◌-◌, arith}
use Rattle.std.proofs.lemmas.List.{take_rest}
use Rattle.repl_read.proofs.TokenLemmas.{word_end, word_step}
use Rattle.repl_read.proofs.tokens.word_at.Goals as goal

pub range-requires-clause-end_boundary : goal.range-requires-clause-end_boundary
range-requires-clause-end_boundary c =
    let rest = take_rest c.args.line.now c.args.start in
    word_end c.args.line.now c.args.start c.word_length.result c.utf8.line c.requires.inside c.requires.word
    (rw (c.as_bytes.ensures.value, rest) at c.word_length.ensures.within)
    (rw (c.as_bytes.ensures.value, rest) at c.word_length.ensures.word)

pub returns : goal.returns
returns c =
    let rest = take_rest c.args.line.now c.args.start in
    let width : c.args.start + c.word_length.result - c.args.start ≡ c.word_length.result = omega arith in
    word_step c.args.line.now c.in_ok-word.word c.args.start c.word_length.result c.requires.inside c.requires.word
    (rw (c.as_bytes.ensures.value, rest) at c.word_length.ensures.within)
    (rw (c.as_bytes.ensures.value, rest) at c.word_length.ensures.word)
    (rw (c.as_bytes.ensures.value, rest) at c.word_length.ensures.ends)
    (rw (c.range.ensures.value, width) at (c.in_ok-word.ensures {u = tt}))
