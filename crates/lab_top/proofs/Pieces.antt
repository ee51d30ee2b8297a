-- Pieces of what is told, and of what is written.
use Rattle.std.proofs.Common.{◌≡◌, ℕ, List, ◌++◌, length, take, Option}
use Rattle.std.proofs.Common.{◌∙◌, sym, ap, arith}
use Rattle.std.proofs.lemmas.List.{length-take, take-append-le, take_min}
use Rattle.lab_io.specs.Known.{grown}
use Rattle.lab_io.specs.Sink.{IsPartWritten}

-- a part of a first piece is a part of it and a second
pub part_of_first : (out out' : Option (List ℕ)) (first second : List ℕ) → IsPartWritten out first out' →
    IsPartWritten out (first ++ second) out'
part_of_first out out' first second part = record {
  count = length (take part.count first);
  written = part.written ∙ ap (grown out) (sym (front first second part.count));
}
  where
    front : (xs ys : List ℕ) (n : ℕ) → take (length (take n xs)) (xs ++ ys) ≡ take n xs
    front xs ys n =
        take-append-le (length (take n xs)) xs ys (rw length-take (omega arith)) ∙ rw length-take (take_min n xs)
