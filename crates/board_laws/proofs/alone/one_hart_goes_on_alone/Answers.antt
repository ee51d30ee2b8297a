-- A board of one processor without atomic instructions, by the parts of its slot.
use Rattle.std.proofs.Common.{◌≡◌, ◌∙◌, ℕ, Bool, true, false, [], ◌∷◌, ap, length, refl}
use Rattle.std.specs.Prelude.{if◌then◌else◌, Option, None, Some}
use Rattle.std.specs.Option.{option_and_then, option_map_or}
use Rattle.rv_hart.specs.declared.csr.Lines.{Lines}
use Rattle.rv_hart.specs.Core.{Core}
use Rattle.rv_hart.specs.Trap.{chosen, interrupt, is_ready}
use Rattle.rv_exec.specs.Effect.{effect}
use Rattle.rv_atomic.specs.declared.shared.Shared.TheVariants as shared
use Rattle.rv_atomic.specs.AtomicEffect.{leaves}
use Rattle.rv_atomic.specs.Laws.{PlainAlone}
use Rattle.rv_atomic.specs.Means.{atomic_of}
use Rattle.rv_atomic.specs.SharedEffect.{shared_effect}
use Rattle.board.specs.Fetch.{effect_on, fetched_by, word_at_pc}
use Rattle.board.specs.HartView.{HartView, SlotState, still, bus_of}
use Rattle.board.specs.Lines.{sampled, lines_of}
use Rattle.board.specs.Numbers.{Numbers}
use Rattle.board.specs.Slot.{slot, hart_slot, in_turn, running, sampling, asleep, awake, woken, cycle, carried_out}
use Rattle.board.specs.Slot.{instruction}
use Rattle.board.specs.Space.{Space}
use Rattle.board.specs.View.{View, State, quiet}
use Rattle.board.specs.HartBus.{HartBus, fetched}
use Rattle.board_laws.specs.Alone as alone
use Rattle.board_laws.specs.Alone.{alone_slot, awake as awake_alone}
use Rattle.board_laws.proofs.TurnLemmas.{next_alone}
use Rattle.board_laws.proofs.alone.one_hart_goes_on_alone.Goals as goal

-- a board of one processor, and as that has it
abbrev board_of : Numbers → Core → Option ℕ → Space → View
board_of numbers core word space =
    record { numbers = numbers; cores = core ∷ []; next = 0; watch = word ∷ []; space = space }

abbrev hart_of : Numbers → Core → Option ℕ → Space → HartView
hart_of numbers core word space =
    record { numbers = numbers; hart = 0; core = core; watch = word ∷ []; space = space }

-- without atomic instructions it does what it fetches, by the rules of a hart alone
effect_alone :
    PlainAlone → (h : HartView) (word : Option ℕ) (w : HartBus) (lines : Lines) → h.core.letters.a ≡ false →
    h.hart ≡ 0 → h.watch ≡ word ∷ [] →
    effect_on h w lines ≡ leaves (effect h.core (fetched_by h.core w) lines) h.watch
effect_alone law h word w lines plain first reserved =
    rw (first, reserved)
    (ap (λ what. shared_effect (fetched w) h.core 0 (word ∷ []) what lines) (by_letter h.core.letters.a plain)
    ∙ law (fetched w) h.core word (fetched_by h.core w) lines)
  where
    by_letter :
        (b : Bool) → b ≡ false →
        option_map_or shared.Atomic (if b then option_and_then atomic_of (word_at_pc h.core w) else None)
        (shared.Plain (fetched_by h.core w)) ≡ shared.Plain (fetched_by h.core w)
    by_letter false is = refl
    by_letter true is = absurd (cc)

by_test :
    (test : Bool) (v : View) (a b : SlotState) (a' b' : State) → in_turn v a ≡ a' → in_turn v b ≡ b' →
    in_turn v (if test then a else b) ≡ (if test then a' else b')
by_test true v a b a' b' p q = p
by_test false v a b a' b' p q = q

-- a slot in which the processor, which was another core before, does not wait
alone_awake :
    PlainAlone → (numbers : Numbers) (before core : Core) (word : Option ℕ) (space : Space) (t : ℕ) (lines : Lines) →
    core.letters.a ≡ false →
    in_turn (board_of numbers before word space) (awake (hart_of numbers core word space) t lines)
    ≡ awake_alone (board_of numbers before word space) core t lines
unfolding awake awake_alone
alone_awake law numbers before core word space t lines plain = by_chosen (chosen core lines.mip)
  where
    v : View
    v = board_of numbers before word space

    h : HartView
    h = hart_of numbers core word space

    by_chosen :
        (taken : Option ℕ) →
        in_turn v (option_map_or (λ n. cycle h (interrupt core n)) taken (instruction h t lines))
        ≡ option_map_or (λ n. alone.cycle v (interrupt core n)) taken (alone.instruction v core t lines)
    by_chosen None =
        ap (λ does. in_turn v (carried_out 0 (bus_of h t) does))
        (effect_alone law h word (bus_of h t) lines plain refl refl)
    by_chosen (Some n) = refl

alone_of :
    PlainAlone → (numbers : Numbers) (core : Core) (word : Option ℕ) (space : Space) (t : ℕ) →
    core.letters.a ≡ false →
    slot (board_of numbers core word space) t ≡ alone_slot (board_of numbers core word space) core t
unfolding slot hart_slot alone_slot
alone_of law numbers core word space t plain =
    let v = board_of numbers core word space in
    let h = hart_of numbers core word space in
    let now = sampling h in
    let there = alone.sampling v in
    let lines = lines_of (sampled space) 0 t in
    let up = record core { waiting = false } in
    by_test core.halted v (still h) (running now t lines) (quiet v) (alone.running there core t lines) refl
    (by_test core.waiting v (asleep now t lines) (awake now t lines) (alone.asleep there core t lines)
    (awake_alone there core t lines)
    (by_test (is_ready core lines.mip) v (awake (woken now) t lines) (cycle now core) (awake_alone there up t lines)
    (alone.cycle there core) (alone_awake law numbers core up word (sampled space) t lines plain) refl)
    (alone_awake law numbers core core word (sampled space) t lines plain))

pub returns-clause-effect : goal.returns-clause-effect
returns-clause-effect c = λ v w lines word. effect_alone c.alone_as_performed.ensures v word w lines

pub returns-clause-turn : goal.returns-clause-turn
returns-clause-turn c = λ v t core one first. next_alone v t (ap length one) first

pub returns-clause-slot : goal.returns-clause-slot
returns-clause-slot c = λ v t core word one first reserved plain.
    let is : v ≡ board_of v.numbers core word v.space = rw (← one, ← first, ← reserved) refl in
    rw is (alone_of c.alone_as_performed.ensures v.numbers core word v.space t plain)
