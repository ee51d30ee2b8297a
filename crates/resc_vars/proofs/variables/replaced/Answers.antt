-- The pieces so far, and one more.
use Rattle.std.proofs.Common.{◌≡◌, ◌∙◌, ◌++◌, ◌∷◌, ◌+◌, ◌<◌, [], Some, None, take, drop, length, get_or, sym, ap}
use Rattle.std.proofs.Common.{refl, arith}
use Rattle.std.specs.Option.{option_map}
use Rattle.std.specs.String.{string_bytes}
use Rattle.std.specs.Char.{encode_utf8}
use Rattle.std.proofs.lemmas.Str.{IsCharBoundary-after_ascii}
use Rattle.resc_read.specs.Piece.{IsFirstPiece}
use Rattle.resc_vars.specs.Variables.{stands_for, replaced}
use Rattle.resc_vars.proofs.VariableLemmas.{replaced_last, replaced_none, step_more, blank_ascii}
use Rattle.resc_vars.proofs.variables.replaced.Goals as goal

pub returns-in-Ok-None : goal.returns-in-Ok-None
returns-in-Ok-None c =
    let n = c.piece_len-n.result in
    let rest = c.pieces.rest.now in
    let first : IsFirstPiece rest n = rw c.as_bytes.ensures.value at c.piece_len-n.ensures in
    let found = rw c.in-Ok-None.field-0-is at c.in-Ok-None.ensures in
    let unset : stands_for c.args.variables.now.entries (take n rest) ≡ None =
    rw c.split_at.ensures.front at (sym found) in
    rw (replaced_none c.args.variables.now.entries rest n first unset) at c.pieces.invariant.1

pub returns-then-n-rest : goal.returns-then-n-rest
returns-then-n-rest c =
    let n = c.piece_len-n.result in
    let rest = c.pieces.rest.now in
    let first : IsFirstPiece rest n = rw c.as_bytes.ensures.value at c.piece_len-n.ensures in
    let found = rw c.in-Ok-Some.field-0-is at c.in-Ok-Some.ensures in
    let said : stands_for c.args.variables.now.entries (take n rest) ≡ Some c.in-Ok-Some.text.now =
    rw c.split_at.ensures.front at (sym found) in
    let last = replaced_last c.args.variables.now.entries rest c.in-Ok-Some.text.now n first c.if-n-rest.true said in
    ap Some (c.in_ok-push_str-in-Ok-Some.ensures {u = tt}).bytes ∙ (rw last at c.pieces.invariant.1)

pub range_from-rest-requires : goal.range_from-rest-requires
range_from-rest-requires c =
    let n = c.piece_len-n.result in
    let rest = c.pieces.rest.now in
    let first : IsFirstPiece rest n = rw c.as_bytes.ensures.value at c.piece_len-n.ensures in
    let below : n < length rest = omega (arith, first.within) in
    λ some. IsCharBoundary-after_ascii rest n c.pieces.invariant.0 below (blank_ascii _ (first.blank below))

pub pieces-preserved : goal.pieces-preserved
pieces-preserved c =
    let n = c.piece_len-n.result in
    let rest = c.pieces.rest.now in
    let vars = c.args.variables.now.entries in
    let made = string_bytes c.pieces.made in
    let text = c.in-Ok-Some.text.now in
    let blank = get_or rest n 0 in
    let first : IsFirstPiece rest n = rw c.as_bytes.ensures.value at c.piece_len-n.ensures in
    let found = rw c.in-Ok-Some.field-0-is at c.in-Ok-Some.ensures in
    let said : stands_for vars (take n rest) ≡ Some text = rw c.split_at.ensures.front at (sym found) in
    let below : n < length rest = omega (arith, first.within) in
    let step = step_more vars rest made text n (replaced vars c.args.line.now) first below said c.pieces.invariant.1 in
    let sent : c.from.result ≡ blank = rw c.as_bytes-in-pieces.ensures.value at c.from.ensures in
    let ascii : blank < 128 = blank_ascii _ (first.blank below) in
    let one : encode_utf8 c.from.result ≡ blank ∷ [] =
    (c.in_ok-push.ensures {u = tt}).ascii (rw sent ascii) ∙ ap (λ b. b ∷ []) sent in
    let now : string_bytes c.push.new.self ≡ (made ++ text) ++ blank ∷ [] =
    (c.in_ok-push.ensures {u = tt}).bytes
    ∙ rw ((c.in_ok-push_str-in-Ok-Some.ensures {u = tt}).bytes, one) refl in
    let after : c.range_from-rest.result.now ≡ drop (n + 1) rest = c.range_from-rest.ensures.value in (
      c.range_from-rest.utf8,
      ap (λ xs. option_map (λ more. string_bytes c.push.new.self ++ more) (replaced vars xs)) after ∙ rw now step,
    )
