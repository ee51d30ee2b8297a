-- Facts of boards as commands meet them.
use Rattle.std.proofs.Common.{◌≡◌, ℕ, List, [], Option, Result, Ok, Bool, true, false, refl, find}
use Rattle.std.specs.Option.{ForSome, ok_or, option_map}
use Rattle.std.specs.Str.{bytes_eq}
use Rattle.sys_bus.specs.declared.plan.BoardPlan.{BoardPlan}
use Rattle.sys_bus.specs.declared.plan.Named.{Named}
use Rattle.board.specs.View.{View}
use Rattle.lab_state.specs.One.{changed, view_of}
use Rattle.resc_vars.specs.declared.cause.ScriptCause.{ScriptCause}
use Rattle.resc_vars.specs.declared.cause.ScriptCause.TheVariants.{Name}
use Rattle.monitor.specs.Answer.{leaves}
use Rattle.monitor.specs.Inner.Ruling.{IsBoard, IsOnward}
use Rattle.monitor.specs.Refusal.{◌>>=◌, require}
use Rattle.monitor.specs.Selected.{Equipped, entry, entry_name, equipped, processor, with_board}
use Rattle.monitor.specs.Step.{Running}

-- what a search for a name in a plan says of a word
pub entry_is :
    (b : ℕ) (v : View) (plan : BoardPlan) (word name : List ℕ) (found : Option Named) →
    plan ≡ v.space.plan → name ≡ entry_name word → found ≡ find (λ named. bytes_eq named.name name) plan.names →
    ok_or (option_map (λ named. named.what) found) Name ≡ entry (record { number = b; view = v }) word
entry_is b v plan word name found same is by = rw (by, same, is) refl

-- a command has changed the selected board
pub changed_rules :
    (old new : Running) (meant : Result Equipped ScriptCause) (b : ℕ) (f : View → View) (text : List ℕ) →
    old.spent ≡ false → IsBoard old.state meant b →
    new ≡ record old { state = record old.state { lab = changed old.state.lab b f } } → text ≡ [] →
    ((meant >>= λ on. Ok (leaves (with_board old.state on f))) ≡ Ok (record { text = text; state = new.state }))
    × IsOnward old new
changed_rules old new meant b f text unspent is same none =
    rw (same, none, is.on) (refl, record { workers = refl; spent = unspent; ended = refl; flow = refl; kept = refl })

-- a command has changed the selected board, of which it names a processor
pub processor_rules :
    (old new : Running) (b hart : ℕ) (cpu : List ℕ) (f : ℕ → View → View) (text : List ℕ) → old.spent ≡ false →
    (is : IsBoard old.state (equipped old.state) b) → Ok hart ≡ processor (record { number = b; view = is.view }) cpu →
    new ≡ record old { state = record old.state { lab = changed old.state.lab b (f hart) } } → text ≡ [] →
    ((equipped old.state >>= λ on. processor on cpu >>= λ hart. Ok (leaves (with_board old.state on (f hart))))
    ≡ Ok (record { text = text; state = new.state }))
    × IsOnward old new
processor_rules old new b hart cpu f text unspent is named same none =
    rw (same, none, is.on, ← named)
    (refl, record { workers = refl; spent = unspent; ended = refl; flow = refl; kept = refl })

-- a command has changed the selected board, of which it asks something
pub tested_rules :
    (old new : Running) (meant : Result Equipped ScriptCause) (b : ℕ) (test : View → Bool) (cause : ScriptCause)
    (f : View → View) (text : List ℕ) → old.spent ≡ false → IsBoard old.state meant b →
    ForSome (view_of old.state.lab b) (λ v. test v ≡ true) →
    new ≡ record old { state = record old.state { lab = changed old.state.lab b f } } → text ≡ [] →
    ((meant >>= λ on. require (test on.view) cause >>= λ is. Ok (leaves (with_board old.state on f)))
    ≡ Ok (record { text = text; state = new.state }))
    × IsOnward old new
tested_rules old new meant b test cause f text unspent is passes same none =
    rw (same, none, is.on, passes is.view is.seen)
    (refl, record { workers = refl; spent = unspent; ended = refl; flow = refl; kept = refl })
