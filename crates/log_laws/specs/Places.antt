-- Places in the bytes of a run.
use Rattle.std.specs.Prelude.{ℕ, ◌≤◌, List, [], ◌∷◌}

-- places that do not fall, from one on, and of which none is above a last one
abbrev pub Rises : ℕ → List ℕ → ℕ → Type 0
Rises low [] last = low ≤ last
Rises low (place ∷ places) last = (low ≤ place) × Rises place places last
