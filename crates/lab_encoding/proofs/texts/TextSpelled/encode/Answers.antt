use Rattle.std.proofs.Common.{◌≡◌, ◌∙◌}
use Rattle.std.proofs.lemmas.Str.{is_utf8-from_IsUtf8}
use Rattle.lab_encoding.specs.Combine.{text}
use Rattle.lab_encoding.proofs.texts.TextSpelled.encode.Goals as goal

pub returns-clause-fits : goal.returns-clause-fits
unfolding text
returns-clause-fits c =
    let same : c.as_bytes-bytes.result.now ≡ c.args.self.now = c.as_bytes-bytes.ensures.value ∙ c.as_str.ensures in
    rw (← same)
    (c.in_ok-encode_list.ensures.fits, is_utf8-from_IsUtf8 _ c.as_bytes-bytes.ensures.utf8)
