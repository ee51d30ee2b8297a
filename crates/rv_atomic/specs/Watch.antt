-- The reservations of the harts that share a memory: for each hart the address of the word that it has reserved, or
-- none (RISC-V Unprivileged ISA 20191213, section 8.2).
use Rattle.std.specs.Prelude.{ℕ, ◌+◌, ◌==◌, ◌&&◌, Bool, false, if◌then◌else◌, List, map, Option, Some, None, nat_lt}
use Rattle.std.specs.Prelude.{slice_index_or, slice_set}
use Rattle.std.specs.Option.{option_map_or}

-- the word that a hart has reserved
abbrev pub reserved : List (Option ℕ) → ℕ → Option ℕ
reserved watch hart = slice_index_or watch hart None

-- whether a hart has reserved this word
abbrev pub has_reserved : List (Option ℕ) → ℕ → ℕ → Bool
has_reserved watch hart at = option_map_or (λ word. word == at) (reserved watch hart) false

-- whether one of so many bytes from an address on is a byte of the word
abbrev pub reaches : ℕ → ℕ → ℕ → Bool
reaches at width word = nat_lt at (word + 4) && nat_lt word (at + width)

-- what is left of a reservation of a word by a store of so many bytes of another hart
abbrev pub kept : ℕ → ℕ → Option ℕ → Option ℕ
kept at width None = None
kept at width (Some word) = if reaches at width word then None else Some word

-- the reservations after a store of a hart, which keeps its own
abbrev pub after_store : ℕ → ℕ → ℕ → List (Option ℕ) → List (Option ℕ)
after_store hart at width watch = slice_set (map (kept at width) watch) hart (reserved watch hart)
