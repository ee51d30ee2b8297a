-- Where no reservation ends: with one hart there is no other that has one, and where no hart has one, none ends.
use Rattle.std.proofs.Common.{◌≡◌, ◌∙◌, ℕ, List, [], ◌∷◌, map, set, get_or, true, refl, ap}
use Rattle.std.specs.Prelude.{Option, Some, None}
use Rattle.std.specs.List.{list_all}
use Rattle.std.specs.Option.{is_none, option_map_or}
use Rattle.std.proofs.lemmas.List.{set-get_or}
use Rattle.rv_hart.specs.declared.csr.Lines.{Lines}
use Rattle.rv_hart.specs.Core.{Core}
use Rattle.rv_exec.specs.declared.fetched.Fetched.{Fetched}
use Rattle.rv_exec.specs.Effect.{effect}
use Rattle.rv_atomic.specs.declared.shared.Shared.TheVariants as shared
use Rattle.rv_atomic.specs.declared.span.Span.{Span}
use Rattle.rv_atomic.specs.AtomicEffect.{leaves}
use Rattle.rv_atomic.specs.SharedEffect.{shared_effect}
use Rattle.rv_atomic.specs.Span.{span_of}
use Rattle.rv_atomic.specs.Laws.{EndsNone}
use Rattle.rv_atomic.specs.Watch.{after_store, kept}

-- by the rules of a hart alone
alone_by :
    (span : Option Span) (word : Option ℕ) →
    option_map_or (λ span. after_store 0 span.at span.width (word ∷ [])) span (word ∷ []) ≡ word ∷ []
alone_by None word = refl
alone_by (Some span) word = refl

pub alone :
    (memory : ℕ → Option ℕ) (core : Core) (word : Option ℕ) (what : Fetched) (lines : Lines) →
    shared_effect memory core 0 (word ∷ []) (shared.Plain what) lines ≡ leaves (effect core what lines) (word ∷ [])
unfolding shared_effect
alone memory core word what lines =
    ap (leaves (effect core what lines)) (alone_by (span_of (effect core what lines)) word)

-- no reservations are none after a store
none_kept : (at width : ℕ) (watch : List (Option ℕ)) → list_all is_none watch ≡ true → map (kept at width) watch ≡ watch
none_kept at width [] none = refl
none_kept at width (None ∷ watch) none = ap (λ l. None ∷ l) (none_kept at width watch none)
none_kept at width (Some word ∷ watch) none = cc

none_ends :
    (number : ℕ) (watch : List (Option ℕ)) → list_all is_none watch ≡ true → (span : Option Span) →
    option_map_or (λ span. after_store number span.at span.width watch) span watch ≡ watch
none_ends number watch none None = refl
none_ends number watch none (Some span) =
    ap (λ l. set l number (get_or watch number None)) (none_kept span.at span.width watch none)
    ∙ set-get_or watch number None

pub clear_ends_none :
    (watch : List (Option ℕ)) (what : Fetched) → list_all is_none watch ≡ true → EndsNone watch what
unfolding shared_effect
clear_ends_none watch what none = λ memory core number lines below.
    ap (leaves (effect core what lines)) (none_ends number watch none (span_of (effect core what lines)))
