-- What a slot of one of the harts that share a memory does to its core, to the bus and to the reservations.
use Rattle.std.specs.Prelude.{ℕ, List, Option}
use Rattle.std.specs.Option.{option_map_or}
use Rattle.rv_hart.specs.declared.csr.Lines.{Lines}
use Rattle.rv_hart.specs.declared.letters.Letters.{Letters}
use Rattle.rv_hart.specs.Core.{Core}
use Rattle.rv_exec.specs.Effect.{Effect, effect}
use Rattle.rv_exec.specs.Fetched.{IsPerformable}
use Rattle.rv_atomic.specs.declared.shared.Shared.{Shared}
use Rattle.rv_atomic.specs.declared.shared.Shared.TheVariants as shared
use Rattle.rv_atomic.specs.AtomicEffect.{SharedEffect, atomic_effect, leaves}
use Rattle.rv_atomic.specs.Means.{IsAtomic}
use Rattle.rv_atomic.specs.Span.{span_of}
use Rattle.rv_atomic.specs.Watch.{after_store}

-- what an effect of a hart leaves of the reservations: a store ends those that others have of a word that it reaches
abbrev pub after_effect : ℕ → Effect → List (Option ℕ) → List (Option ℕ)
after_effect number effect watch =
    option_map_or (λ span. after_store number span.at span.width watch) (span_of effect) watch

-- what a slot does: any other instruction does to core and bus what it does on a hart alone
unfoldable pub shared_effect : (ℕ → Option ℕ) → Core → ℕ → List (Option ℕ) → Shared → Lines → SharedEffect
shared_effect memory core number watch (shared.Plain what) lines =
    leaves (effect core what lines) (after_effect number (effect core what lines) watch)
shared_effect memory core number watch (shared.Atomic a) lines = atomic_effect memory core number watch a

-- what may be done on a hart of these letters
abbrev pub IsSharable : Letters → Shared → Type 0
IsSharable letters (shared.Plain what) = IsPerformable letters what
IsSharable letters (shared.Atomic a) = IsAtomic a
