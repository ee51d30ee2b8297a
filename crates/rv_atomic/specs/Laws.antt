-- Laws of the words of atomic instructions, and of a hart that shares its memory with no other.
use Rattle.std.specs.Prelude.{◌≡◌, ℕ, ◌<◌, length, List, [], ◌∷◌, Option, None, IsSome}
use Rattle.rv_decode.specs.Means.{means}
use Rattle.rv_hart.specs.declared.csr.Lines.{Lines}
use Rattle.rv_hart.specs.Core.{Core}
use Rattle.rv_exec.specs.declared.fetched.Fetched.{Fetched}
use Rattle.rv_exec.specs.Effect.{effect}
use Rattle.rv_atomic.specs.declared.shared.Shared.TheVariants as shared
use Rattle.rv_atomic.specs.Means.{atomic_of}
use Rattle.rv_atomic.specs.AtomicEffect.{leaves}
use Rattle.rv_atomic.specs.SharedEffect.{shared_effect}

-- what is no atomic instruction does what it does by the rules of a hart alone, and the reservation stays
abbrev pub PlainAlone : Type 0
PlainAlone =
    (memory : ℕ → Option ℕ) (core : Core) (word : Option ℕ) (what : Fetched) (lines : Lines) →
    shared_effect memory core 0 (word ∷ []) (shared.Plain what) lines ≡ leaves (effect core what lines) (word ∷ [])

-- what is no atomic instruction does, whichever of the harts does it, what it does by the rules of a hart alone, and
-- all reservations stay
abbrev pub EndsNone : List (Option ℕ) → Fetched → Type 0
EndsNone watch what =
    (memory : ℕ → Option ℕ) (core : Core) (number : ℕ) (lines : Lines) → number < length watch →
    shared_effect memory core number watch (shared.Plain what) lines ≡ leaves (effect core what lines) watch

-- a word of an atomic instruction means none of the others, so it does not matter which table is searched first
abbrev pub MeansNoOther : Type 0
MeansNoOther = (word : ℕ) → IsSome (atomic_of word) → means word ≡ None
