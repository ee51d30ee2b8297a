-- A text of 16 MiB has few enough lines that their numbers fit.
use Rattle.std.proofs.Common.{◌≡◌, ap, length, arith}
use Rattle.std.specs.String.{string_bytes}
use Rattle.std.proofs.lemmas.Str.{IsCharBoundary-start, IsUtf8-string_bytes}
use Rattle.resc_vars.proofs.LineLemmas.{shown_all}
use Rattle.resc_vars.proofs.lines.TextLines.of.Goals as goal

pub invariant_of-result : goal.invariant_of-result
invariant_of-result c =
    let held = c.in_ok-new.field-0.value in
    let same : length (string_bytes held) ≡ length (string_bytes c.args.text) =
    ap (λ s. length (string_bytes s)) (c.in_ok-new.ensures.ok) in
    (IsCharBoundary-start (string_bytes held) (IsUtf8-string_bytes held), omega (arith, same, c.requires))

pub returns : goal.returns
returns c =
    let held = c.in_ok-new.field-0.value in
    let same : held ≡ c.args.text = c.in_ok-new.ensures.ok in
    rw (same, c.as_str.ensures.value) (shown_all (string_bytes c.args.text))
