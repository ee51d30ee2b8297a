-- A piece of a piece.
use Rattle.std.proofs.Common.{◌≡◌, ◌+◌, ◌≤◌, ap, sym, take, drop, length, arith, rules}
use Rattle.elf_load.proofs.PieceLemmas.{piece_of_piece, take-le}
use Rattle.elf_load.proofs.bytes.Bytes.piece.Goals as goal

pub returns : goal.returns
returns c =
    let inside = c.self.inside in
    let all = inside.all.value.items in
    let same : c.in_ok-clone.field-0.value.items ≡ all = search rules in
    let view : c.args.self.now ≡ take inside.len (drop inside.from all) = sym c.self.view_is in
    let within : c.args.from + c.args.len ≤ inside.len =
    omega (arith, c.requires, ap length view, take-le inside.len (drop inside.from all)) in
    rw (same, view) (piece_of_piece all inside.from inside.len c.args.from c.args.len within)
