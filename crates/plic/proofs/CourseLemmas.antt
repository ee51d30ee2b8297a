-- A source that waits for its completion, and samples that change nothing.
use Rattle.std.proofs.Common.{◌≡◌, ℕ, ◌<◌, ◌≤◌, ◌==◌, ◌&&◌, ◌||◌, not, Bool, true, false, if◌then◌else◌, List, [], ◌∷◌}
use Rattle.std.proofs.Common.{Option, Some, None, inl, inr, refl, sym, ap₂, ◌∙◌, arith}
use Rattle.std.proofs.lemmas.Bool.{and_parts, or_cases, not-true, false_from_ne_true, or_parts, both_ways, eq-eqb}
use Rattle.std.proofs.lemmas.Bool.{ne_eqb, leb-true}
use Rattle.plic.specs.declared.register.Register.{Register}
use Rattle.plic.specs.declared.register.Register.TheVariants.{Priority, Pending, Enable, Threshold, Claim}
use Rattle.plic.specs.declared.state.PlicState.{PlicState}
use Rattle.plic.specs.Sources.{has, is_source, union, without}
use Rattle.plic.specs.State.{Controller}
use Rattle.plic.specs.Gateway.{is_enabled, is_raised, raised, sample, complete}
use Rattle.plic.specs.Claim.{claim, after_claim}
use Rattle.plic.specs.Map.{reached}
use Rattle.plic.specs.Registers.{loaded_at, stored_at, plic_loaded, plic_stored}
use Rattle.plic.specs.Course.{PlicStep, Samples, Claims, Completes, Loads, Stores, after, course, is_completion}
use Rattle.plic.specs.Course.{is_completion_at, is_completed}
use Rattle.plic.specs.Laws.{SamplesOnce, StaysShut, AwaitsCompletion}
use Rattle.plic.proofs.SetLemmas.{has-union, has-raised, has-without, union-lt, union-stays}
use Rattle.plic.proofs.BestLemmas.{claim_is_chosen}

-- ---- a second sample

handed_on : (may shut : Bool) → (may && not (shut || (may && not shut))) ≡ false
handed_on true true = refl
handed_on true false = refl
handed_on false shut = refl

-- nothing is raised by the same lines once they are sampled
raised-again : (n shut lines s : ℕ) → s < 128 → has (raised n (union shut (raised n shut lines)) lines) s ≡ false
raised-again n shut lines s h =
    rw (
      has-raised n (union shut (raised n shut lines)) lines s h,
      has-union shut (raised n shut lines) s h,
      has-raised n shut lines s h,
    )
    (handed_on (is_source n s && has lines s) (has shut s))

pub samples_once : SamplesOnce
unfolding sample
samples_once n p lines =
    ap₂ (λ (a b : ℕ). record p { pending = a; shut = b })
    (union-stays (union p.pending (raised n p.shut lines)) _ (union-lt _ _) (raised-again n p.shut lines))
    (union-stays (union p.shut (raised n p.shut lines)) _ (union-lt _ _) (raised-again n p.shut lines))

-- ---- a source that was claimed and is not completed

-- its gateway is shut, and only if it may be is it pending
record Waits (p : PlicState) (source : ℕ) (may : Bool) : Type 0 where
  shut : has p.shut source ≡ true
  pending : has p.pending source ≡ true → may ≡ true

waits-sample : (n : ℕ) (p : PlicState) (lines source : ℕ) (may : Bool) → source < 128 → Waits p source may →
    Waits (sample n p lines) source may
unfolding sample
waits-sample n p lines source may h waits = record {
  shut = rw (has-union p.shut (raised n p.shut lines) source h, waits.shut) refl;
  pending = λ is. elim (or_cases _ _ (sym (has-union p.pending (raised n p.shut lines) source h) ∙ is)) [
    | inl was ↦ waits.pending was
    | inr now ↦
        let opened : is_raised n p.shut lines source ≡ true = sym (has-raised n p.shut lines source h) ∙ now in
        absurd (both_ways _ (not-true _ (and_parts _ _ opened).1) waits.shut)
  ];
}

waits-claim : (n : ℕ) (p : PlicState) (context source : ℕ) (may : Bool) → source < 128 → Waits p source may →
    Waits (after_claim n p context) source may
unfolding after_claim
waits-claim n p context source may h waits =
    elim (claim n p context == 0) as (λ t.
    Waits (if t then p else record p { pending = without p.pending (claim n p context) }) source may) [
      | true ↦ waits
      | false ↦ record {
        shut = waits.shut;
        pending = λ is.
            waits.pending (and_parts _ _ (sym (has-without p.pending (claim n p context) source h) ∙ is)).0;
      }
    ]

waits-complete : (p : PlicState) (context number source : ℕ) (may : Bool) → source < 128 → Waits p source may →
    (number == source && is_enabled p context number) ≡ false → Waits (complete p context number) source may
unfolding complete
waits-complete p context number source may h waits other =
    elim (is_enabled p context number) as (λ t. (number == source && t) ≡ false →
    Waits (if t then record p { shut = without p.shut number } else p) source may) [
      | true ↦ λ apart. record {
        shut =
            let differs : (source == number) ≡ false = ne_eqb source number (λ e.
            both_ways _ apart (rw (eq-eqb number source (sym e)) refl)) in
            rw (has-without p.shut number source h, waits.shut, differs) refl;
        pending = waits.pending;
      }
      | false ↦ λ apart. waits
    ] other

waits-loaded : (n : ℕ) (p : PlicState) (register : Option Register) (source : ℕ) (may : Bool) →
    source < 128 → Waits p source may → Waits (loaded_at n p register) source may
waits-loaded n p None source may h waits = waits
waits-loaded n p (Some (Priority s)) source may h waits = waits
waits-loaded n p (Some (Pending word)) source may h waits = waits
waits-loaded n p (Some (Enable context word)) source may h waits = waits
waits-loaded n p (Some (Threshold context)) source may h waits = waits
waits-loaded n p (Some (Claim context)) source may h waits = waits-claim n p context source may h waits

waits-stored : (n : ℕ) (p : PlicState) (register : Option Register) (value source : ℕ) (may : Bool) →
    source < 128 → Waits p source may → is_completion_at p register value source ≡ false →
    Waits (stored_at n p register value) source may
waits-stored n p None value source may h waits other = waits
waits-stored n p (Some (Priority s)) value source may h waits other =
    record { shut = waits.shut; pending = waits.pending }
waits-stored n p (Some (Pending word)) value source may h waits other = waits
waits-stored n p (Some (Enable context word)) value source may h waits other =
    record { shut = waits.shut; pending = waits.pending }
waits-stored n p (Some (Threshold context)) value source may h waits other =
    record { shut = waits.shut; pending = waits.pending }
waits-stored n p (Some (Claim context)) value source may h waits other =
    waits-complete p context value source may h waits other

waits-step : (c : Controller) (step : PlicStep) (source : ℕ) (may : Bool) → source < 128 → Waits c.state source may →
    is_completion c step source ≡ false → Waits (after c step).state source may
unfolding plic_loaded plic_stored
waits-step c (Samples lines) source may h waits other = waits-sample c.sources c.state lines source may h waits
waits-step c (Claims context) source may h waits other = waits-claim c.sources c.state context source may h waits
waits-step c (Completes context number) source may h waits other =
    waits-complete c.state context number source may h waits other
waits-step c (Loads at width) source may h waits other =
    waits-loaded c.sources c.state (reached c.sources c.contexts at width) source may h waits
waits-step c (Stores at width value) source may h waits other =
    waits-stored c.sources c.state (reached c.sources c.contexts at width) value source may h waits other

waits-course : (c : Controller) (steps : List PlicStep) (source : ℕ) (may : Bool) → source < 128 →
    Waits c.state source may → is_completed c steps source ≡ false → Waits (course c steps).state source may
waits-course c [] source may h waits never = waits
waits-course c (step ∷ steps) source may h waits never =
    let parts = or_parts (is_completion c step source) (is_completed (after c step) steps source) never in
    waits-course (after c step) steps source may h (waits-step c step source may h waits parts.0) parts.1

waits-claimed : (n : ℕ) (p : PlicState) (context : ℕ) → 0 < claim n p context → claim n p context < 128 →
    has p.shut (claim n p context) ≡ true → Waits (after_claim n p context) (claim n p context) false
unfolding after_claim
waits-claimed n p context some h shut =
    let is : (claim n p context == 0) ≡ false = ne_eqb (claim n p context) 0 (λ e. omega arith) in
    rw is (record {
      shut = shut;
      pending = λ still.
          let other : not (claim n p context == claim n p context) ≡ true =
          (and_parts _ _ (sym (has-without p.pending (claim n p context) (claim n p context) h) ∙ still)).1 in
          absurd (both_ways _ (not-true _ other) (eq-eqb (claim n p context) (claim n p context) refl));
    })

pub awaits_completion : AwaitsCompletion
awaits_completion c context steps valid some shut never =
    let chosen = claim_is_chosen c.sources c.state context some in
    let within : claim c.sources c.state context ≤ c.sources = leb-true _ _ (and_parts _ _ chosen.there).1 in
    let most : c.sources ≤ 127 = valid.sources in
    let below : claim c.sources c.state context < 128 = omega arith in
    let waits = waits-course (after c (Claims context)) steps (claim c.sources c.state context) false below
    (waits-claimed c.sources c.state context some below shut) never in
    false_from_ne_true _ (λ pending. both_ways _ refl (waits.pending pending))

pub stays_shut : StaysShut
stays_shut c steps source h shut never =
    (waits-course c steps source true h (record { shut = shut; pending = λ _. refl }) never).shut
