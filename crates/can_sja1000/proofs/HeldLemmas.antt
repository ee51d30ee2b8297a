-- The frames in the receive FIFO, and the bytes that they take.
use Rattle.std.proofs.Common.{◌*◌, ◌≤◌, List, [], ◌∷◌, length, drop, sum_by, arith}
use Rattle.std.proofs.lemmas.List.Sums.{sum_by-cons, sum_by-take-drop}
use Rattle.dev_core.specs.Frame.{FrameData, held_size}

two_or_more : (x : FrameData) → 2 ≤ held_size x
two_or_more x = omega arith

-- each frame takes two bytes at least
pub length-held : (xs : List FrameData) → 2 * length xs ≤ sum_by held_size xs
length-held [] = omega arith
length-held (x ∷ xs) = omega (arith, sum_by-cons held_size x xs, two_or_more x, length-held xs)

-- without the first frame they take no more
pub held-drop_first : (xs : List FrameData) → sum_by held_size (drop 1 xs) ≤ sum_by held_size xs
held-drop_first xs = omega (arith, sum_by-take-drop held_size xs 1)
