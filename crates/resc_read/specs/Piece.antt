-- Where the first piece of a line ends.
use Rattle.std.specs.Prelude.{◌≡◌, ℕ, ◌+◌, ◌<◌, ◌≤◌, ◌==◌, true, false, if◌then◌else◌, List, [], ◌∷◌, length, take}
use Rattle.std.specs.Prelude.{drop, slice_index}
use Rattle.resc_read.specs.Words.{is_blank, pieces, gaps}

-- the first piece of a line ends at n, at the line's end or at a blank outside quotes
pub record IsFirstPiece (line : List ℕ) (n : ℕ) : Type 0 where
  pub within : n ≤ length line
  pub blank : n < length line → is_blank (slice_index line n) ≡ true
  pub pieces :
      pieces false line ≡ (if n == length line then line ∷ [] else take n line ∷ pieces false (drop (n + 1) line))
  pub gaps : gaps false line ≡ (if n == length line then [] else slice_index line n ∷ gaps false (drop (n + 1) line))
