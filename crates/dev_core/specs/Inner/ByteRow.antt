-- A row of bytes inside: sixteen places, of which the first `count` are in use and the others are 0.
use Rattle.std.specs.Prelude.{◌≡◌, ℕ, ◌-◌, ◌≤◌, List, ◌++◌, length, take, drop, replicate, refl}
use Rattle.std.proofs.Common.{arith}
use Rattle.std.proofs.lemmas.List.{take-append-drop, length-take-le}
use Rattle.dev_core.specs.declared.byte_row.ByteRow.TheInside.{Inside}

-- the bytes of a row
abbrev pub bytes_of : Inside → List ℕ
bytes_of row = take row.count row.bytes

-- the row of these bytes
abbrev pub row_of : List ℕ → Inside
row_of bytes = record { bytes = bytes ++ replicate (16 - length bytes) 0; count = length bytes }

pub record IsRow (row : Inside) : Type 0 where
  pub count : row.count ≤ 16
  pub size : length row.bytes ≡ 16
  pub rest : drop row.count row.bytes ≡ replicate (16 - row.count) 0

-- a row is the row of its bytes
pub row_of-bytes_of : (row : Inside) → IsRow row → row_of (bytes_of row) ≡ row
row_of-bytes_of row kept =
    let size = kept.size in
    let all = length-take-le row.count row.bytes (omega arith) in
    rw (all, ← kept.rest, take-append-drop) refl
