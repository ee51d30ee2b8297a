-- The text is cut after blanks.
use Rattle.std.proofs.Common.{◌≡◌}
use Rattle.std.specs.List.{prefix_len}
use Rattle.rv_asm.specs.Texts.{is_blank}
use Rattle.rv_asm.proofs.BoundaryLemmas.{front_boundary}
use Rattle.rv_asm.proofs.texts.trimmed.Goals as goal

pub range_from-rest-requires : goal.range_from-rest-requires
range_from-rest-requires c some =
    let is : c.front_blanks-front.result ≡ prefix_len is_blank c.args.text.now =
    rw c.as_bytes.ensures.value at c.front_blanks-front.ensures in
    rw is (front_boundary c.args.text.now c.utf8.text (rw is at some))
