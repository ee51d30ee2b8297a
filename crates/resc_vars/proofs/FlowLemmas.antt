-- How much is left of a script.
use Rattle.std.proofs.Common.{ℕ, ◌+◌, List, [], ◌∷◌, length}
use Rattle.resc_vars.specs.Script.{Open, State}

-- how many items stand in bodies, and how many bodies there are
abbrev pub total : List Open → ℕ
total [] = 0
total (body ∷ outer) = 1 + length body.items + total outer

abbrev pub weight : State → ℕ
weight s = length s.current.items + total s.outer
