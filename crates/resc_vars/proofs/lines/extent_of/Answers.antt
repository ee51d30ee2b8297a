-- A text may be cut where its end begins.
use Rattle.std.proofs.Common.{◌≡◌, ◌-◌, ap, length, arith}
use Rattle.std.proofs.lemmas.List.{length-append}
use Rattle.std.proofs.lemmas.Str.{IsCharBoundary-at_seam}
use Rattle.resc_vars.proofs.lines.extent_of.Goals as goal

pub returns-clause-boundary : goal.returns-clause-boundary
returns-clause-boundary c =
    let text = c.args.text.now in
    let end = c.args.end.now in
    let (front, is) = c.requires in
    let at : length text - length end ≡ length front = omega (arith, ap length is, length-append front end) in
    rw at (IsCharBoundary-at_seam text front end is c.utf8.end)
