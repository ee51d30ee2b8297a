-- What can befall a PLIC between two resets, one thing after another.
use Rattle.std.specs.Prelude.{ℕ, ◌==◌, ◌&&◌, ◌||◌, Bool, false, List, [], ◌∷◌, Option, Some, None}
use Rattle.plic.specs.declared.register.Register.{Register}
use Rattle.plic.specs.declared.register.Register.TheVariants.{Priority, Pending, Enable, Threshold, Claim}
use Rattle.plic.specs.declared.state.PlicState.{PlicState}
use Rattle.plic.specs.Claim.{after_claim}
use Rattle.plic.specs.Gateway.{is_enabled, complete, sample}
use Rattle.plic.specs.Map.{reached}
use Rattle.plic.specs.Registers.{plic_loaded, plic_stored}
use Rattle.plic.specs.State.{Controller}

-- these lines are sampled, a context claims, a context completes a source, or a word is loaded from or stored at an
-- address: the address, the width and the value
pub data PlicStep : Type 0 where
  Samples : ℕ → PlicStep
  Claims : ℕ → PlicStep
  Completes : ℕ → ℕ → PlicStep
  Loads : ℕ → ℕ → PlicStep
  Stores : ℕ → ℕ → ℕ → PlicStep

abbrev pub state_after : Controller → PlicStep → PlicState
state_after c (Samples lines) = sample c.sources c.state lines
state_after c (Claims context) = after_claim c.sources c.state context
state_after c (Completes context source) = complete c.state context source
state_after c (Loads at width) = plic_loaded c at width
state_after c (Stores at width value) = plic_stored c at width value

abbrev pub after : Controller → PlicStep → Controller
after c step = record c { state = state_after c step }

abbrev pub course : Controller → List PlicStep → Controller
course c [] = c
course c (step ∷ steps) = course (after c step) steps

-- whether a store of a number in a register completes a source: it is the source's, and the source is enabled in the
-- context that completes
abbrev pub is_completion_at : PlicState → Option Register → ℕ → ℕ → Bool
is_completion_at p None number source = false
is_completion_at p (Some (Priority s)) number source = false
is_completion_at p (Some (Pending word)) number source = false
is_completion_at p (Some (Enable context word)) number source = false
is_completion_at p (Some (Threshold context)) number source = false
is_completion_at p (Some (Claim context)) number source = number == source && is_enabled p context number

-- whether a step completes a source
abbrev pub is_completion : Controller → PlicStep → ℕ → Bool
is_completion c (Samples lines) source = false
is_completion c (Claims context) source = false
is_completion c (Completes context number) source = is_completion_at c.state (Some (Claim context)) number source
is_completion c (Loads at width) source = false
is_completion c (Stores at width value) source =
    is_completion_at c.state (reached c.sources c.contexts at width) value source

-- whether some step of a course does
abbrev pub is_completed : Controller → List PlicStep → ℕ → Bool
is_completed c [] source = false
is_completed c (step ∷ steps) source = is_completion c step source || is_completed (after c step) steps source
