-- The laboratory while a board is added.
use Rattle.std.specs.Prelude.{◌≡◌, ℕ, false, [], ◌∷◌, ◌++◌, codes, map, None}
use Rattle.std.specs.List.{range_with_len}
use Rattle.std.specs.Fmt.{decimal}
use Rattle.lab_state.specs.Board.{Board}
use Rattle.lab_state.specs.Lab.{Lab, Seen}
use Rattle.lab_gen.specs.Generated.{board, generated}

-- a laboratory in which nothing was made
abbrev pub empty : Lab
empty = record { boards = []; hubs = []; pending = []; now = 0; quantum = 100 }

-- the board of this number before it has a plan
abbrev pub bare : ℕ → Board
bare n = record { name = codes "m" ++ decimal n; view = None }

-- the generated laboratory with a board more, which is in no hub
abbrev pub with_board : ℕ → ℕ → Board → Lab
with_board seed n more =
    record (generated seed n) { boards = map (board seed) (range_with_len 0 n) ++ more ∷ [] }

-- this is that laboratory, and it is not spent
abbrev pub IsWith : ℕ → ℕ → Board → Seen → Type 0
IsWith seed n more seen = seen ≡ record { lab = with_board seed n more; spent = false }
