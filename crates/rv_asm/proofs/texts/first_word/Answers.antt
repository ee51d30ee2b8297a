-- The text is cut before a blank.
use Rattle.std.proofs.Common.{◌≡◌}
use Rattle.std.specs.List.{position_or_len}
use Rattle.rv_asm.specs.Texts.{is_blank}
use Rattle.rv_asm.proofs.BoundaryLemmas.{word_boundary}
use Rattle.rv_asm.proofs.texts.first_word.Goals as goal

pub range-requires-clause-end_boundary : goal.range-requires-clause-end_boundary
range-requires-clause-end_boundary c =
    let is : c.word_length-n.result ≡ position_or_len is_blank c.args.text.now =
    rw c.as_bytes.ensures.value at c.word_length-n.ensures in
    rw is (word_boundary c.args.text.now)

pub range_from-requires : goal.range_from-requires
range_from-requires c some =
    let is : c.word_length-n.result ≡ position_or_len is_blank c.args.text.now =
    rw c.as_bytes.ensures.value at c.word_length-n.ensures in
    rw is (word_boundary c.args.text.now)
