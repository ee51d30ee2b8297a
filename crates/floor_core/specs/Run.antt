-- Lists of events on a floor.
use Rattle.std.specs.Prelude.{◌≡◌, ℕ, true, List, [], ◌∷◌, take, slice_get, Option, IsSomeAnd}
use Rattle.dev_core.specs.declared.post.Post.{Post}
use Rattle.floor_core.specs.declared.event.Event.{Event}
use Rattle.floor_core.specs.declared.event.Ran.{Ran}
use Rattle.floor_core.specs.declared.event.Ran.TheVariants as ran
use Rattle.floor_core.specs.Events.{IsLegal, happened}
use Rattle.floor_core.specs.Floor.{Floor}

module _ {S : Type 0} (state_after : S → List (Option Post) → ℕ → S) where
  -- each event is legal in its turn, and this is the floor after the last
  abbrev pub IsRun : Floor S → List Event → Floor S → Type 0
  IsRun old [] new = new ≡ old
  IsRun old (e ∷ events) new = IsLegal old e × IsRun (happened state_after old e) events new

  -- What a list of events comes to: all of them happen; or those before the first that is not legal happen; or those
  -- before one that is legal happen, memory runs out there, and the floor is ended.
  abbrev pub ComesTo : Floor S → List Event → Ran → Floor S → Type 0
  ComesTo old events ran.All new = IsRun old events new
  ComesTo old events (ran.Stopped i) new =
      IsRun old (take i events) new × IsSomeAnd (slice_get events i) (λ e. ¬ IsLegal new e)
  ComesTo old events (ran.Starved i) new =
      (new.is_ended ≡ true) ×
      ((last : Floor S) × IsRun old (take i events) last × IsSomeAnd (slice_get events i) (IsLegal last))
