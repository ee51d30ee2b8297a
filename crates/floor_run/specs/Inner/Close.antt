-- How the cells of a closed bench are read.
use Rattle.std.specs.Prelude.{ℕ, ◌%◌, ◌+◌, ◌<◌, ◌≡◌, ◌==◌, List, Option, None, slice_index_or, if◌then◌else◌}
use mathlib.Core.Option.{some}
use lib.ListN.{get_elem?}

module _ {J : Type 0} where
  -- what lies in a cell, unless its board is out
  abbrev pub kept : ℕ → Option J → Option J
  kept word x = if word % 4 == 1 then None else x

  -- the jobs are what lies in the first n cells, without the boards that are out
  abbrev pub Takes : List ℕ → List (Option J) → ℕ → List (Option J) → Type 0
  Takes words cells n jobs =
      (k : ℕ) (x : Option J) → k < n → get_elem? cells k ≡ some x →
      get_elem? jobs k ≡ some (kept (slice_index_or words (k + 1) 0) x)
