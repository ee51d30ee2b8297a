-- What a processor does in its slot, as its board has it.
use Rattle.std.proofs.Common.{◌≡◌, ◌∙◌, ℕ, ◌<◌, ◌==◌, Bool, true, false, not, List, [], ◌∷◌, length, refl}
use Rattle.std.proofs.Common.{ap, sym, arith, OnOk}
use Rattle.std.specs.Prelude.{Option, None, Result, Ok, Err, if◌then◌else◌}
use Rattle.std.specs.Option.{option_and_then, option_map_or}
use Rattle.std.proofs.lemmas.Bool.{eqb-true, or_parts}
use Rattle.rv_hart.specs.declared.csr.Lines.{Lines}
use Rattle.rv_hart.specs.Core.{Core}
use Rattle.rv_hart.specs.Trap.{chosen}
use Rattle.rv_exec.specs.Effect.{effect, core_after, bus_after}
use Rattle.rv_exec.specs.Laws.{IsSameHart}
use Rattle.rv_atomic.specs.declared.shared.Shared.TheVariants as shared
use Rattle.rv_atomic.specs.AtomicEffect.{SharedEffect, leaves}
use Rattle.rv_atomic.specs.Means.{atomic_of}
use Rattle.rv_atomic.specs.Laws.{PlainAlone}
use Rattle.rv_atomic.specs.SharedEffect.{shared_effect}
use Rattle.sys_bus.specs.declared.plan.BoardPlan.{BoardPlan}
use Rattle.board.specs.Fetch.{effect_on, fetched_by, shared_by, word_at_pc}
use Rattle.board.specs.HartView.{slot_state}
use Rattle.board.specs.declared.slot.Features.{Features}
use Rattle.board.specs.Inner.Seat.{behind, is_shared, seen, shared_at, HasDone, IsSeat, Seat}
use Rattle.board.specs.Slot.{awake}
use Rattle.board.specs.HartBus.{HartBus, answer, fetched, loaded, stored}
use Rattle.board.proofs.SlotLemmas.{effect-behind}

-- a slot in which an instruction is done, at the beginning and at the end of it
pub awake-instruction :
    (hart : ℕ) (core core' : Core) (watch watch' : List (Option ℕ)) (w begun w' : HartBus) (t : ℕ) (lines : Lines) →
    chosen core lines.mip ≡ None → begun ≡ record w { at = t } →
    core' ≡ core_after answer begun (effect_on (seen hart core watch begun) begun lines).effect →
    watch' ≡ (effect_on (seen hart core watch begun) begun lines).watch →
    w' ≡ bus_after loaded stored begun (effect_on (seen hart core watch begun) begun lines).effect →
    slot_state hart core' watch' w' ≡ behind (slot_state hart core watch w) (awake (seen hart core watch w) t lines)
unfolding awake
awake-instruction hart core core' watch watch' w begun w' t lines none begins core_is watch_is bus_is =
    let begun' : HartBus = record w { at = t } in
    let done = effect_on (seen hart core watch begun') begun' lines in
    rw (core_is, watch_is, bus_is, begins, none)
    (ap (λ now. slot_state hart (core_after answer begun' done.effect) done.watch now)
    (effect-behind begun' done.effect))

-- ---- a processor alone

-- on a board whose processors share nothing there is one, without atomic instructions
pub not-shared :
    (plan : BoardPlan) → is_shared plan ≡ false → (length plan.cpus ≡ 1) × (plan.letters.a ≡ false)
not-shared plan none =
    let parts = or_parts (not (length plan.cpus == 1)) plan.letters.a none in
    (eqb-true (length plan.cpus) 1 (one (length plan.cpus == 1) parts.0), parts.1)
  where
    one : (b : Bool) → not b ≡ false → b ≡ true
    one true is = refl
    one false is = absurd (cc)

-- without atomic instructions it does what it fetches
plain_by : (core : Core) (w : HartBus) → core.letters.a ≡ false → shared_by core w ≡ shared.Plain (fetched_by core w)
plain_by core w plain = by_letter core.letters.a plain
  where
    by_letter :
        (b : Bool) → b ≡ false →
        option_map_or shared.Atomic (if b then option_and_then atomic_of (word_at_pc core w) else None)
        (shared.Plain (fetched_by core w)) ≡ shared.Plain (fetched_by core w)
    by_letter false is = refl
    by_letter true is = absurd (cc)

-- and what that is by the rules of a hart alone
effect_alone :
    PlainAlone → (core : Core) (word : Option ℕ) (w : HartBus) (lines : Lines) → core.letters.a ≡ false →
    effect_on (seen 0 core (word ∷ []) w) w lines ≡ leaves (effect core (fetched_by core w) lines) (word ∷ [])
effect_alone law core word w lines plain =
    ap (λ what. shared_effect (fetched w) core 0 (word ∷ []) what lines) (plain_by core w plain)
    ∙ law (fetched w) core word (fetched_by core w) lines

-- so does a processor whose board shares nothing
pub alone_effect :
    PlainAlone → (hart : ℕ) (core : Core) (watch : List (Option ℕ)) (w : HartBus) (lines : Lines) →
    is_shared w.space.plan ≡ false → core.letters ≡ w.space.plan.letters → hart < length watch →
    length watch ≡ length w.space.plan.cpus →
    effect_on (seen hart core watch w) w lines ≡ leaves (effect core (fetched_by core w) lines) watch
alone_effect law hart core watch w lines shares letters below harts =
    let parts = not-shared w.space.plan shares in
    by_watch watch (harts ∙ parts.0) below (ap (λ l. l.a) letters ∙ parts.1)
  where
    by_watch :
        (words : List (Option ℕ)) → length words ≡ 1 → hart < length words → core.letters.a ≡ false →
        effect_on (seen hart core words w) w lines ≡ leaves (effect core (fetched_by core w) lines) words
    by_watch [] one below plain = absurd (omega (arith, one))
    by_watch (word ∷ []) one below plain =
        let first : hart ≡ 0 = omega (arith, below) in
        rw first (effect_alone law core word w lines plain)
    by_watch (word ∷ other ∷ words) one below plain = absurd (omega (arith, one))

-- a processor alone has done what it fetches
pub alone_done :
    {T E : Type 0} {features : Features} → PlainAlone → (old new : Seat) (lines : Lines) (result : Result T E) →
    is_shared old.bus.space.plan ≡ false → IsSeat features old → new.watch ≡ old.watch →
    let alone = effect old.hart (fetched_by old.hart old.bus) lines in
    OnOk result (new.hart ≡ core_after answer old.bus alone) →
    OnOk result (new.bus ≡ bus_after loaded stored old.bus alone) →
    OnOk result (IsSameHart old.hart new.hart) → OnOk result (HasDone (shared_at old) lines old new)
alone_done law old new lines (Ok value) none seat watch core bus same =
    let is = alone_effect law old.number old.hart old.watch old.bus lines none seat.letters seat.number seat.harts in
    record {
      core = core ∙ ap {A = SharedEffect} (λ done. core_after answer old.bus done.effect) (sym is);
      watch = watch ∙ ap {A = SharedEffect} (λ done. done.watch) (sym is);
      bus = bus ∙ ap {A = SharedEffect} (λ done. bus_after loaded stored old.bus done.effect) (sym is);
      same = same;
    }
alone_done law old new lines (Err error) none seat watch core bus same = tt
