-- What the registers of a PLIC give on a load, and leave on a store (RISC-V PLIC 1.0.0).
use Rattle.std.specs.Prelude.{ℕ, ◌%◌, ◌^◌, Option, Some, None, slice_index, slice_set}
use Rattle.plic.specs.declared.register.Register.{Register}
use Rattle.plic.specs.declared.register.Register.TheVariants.{Priority, Pending, Enable, Threshold, Claim}
use Rattle.plic.specs.declared.state.PlicState.{PlicState}
use Rattle.plic.specs.Claim.{priority, threshold, claim, after_claim}
use Rattle.plic.specs.Gateway.{complete}
use Rattle.plic.specs.Map.{reached}
use Rattle.plic.specs.Sources.{word_of, with_word}
use Rattle.plic.specs.State.{Controller}

-- what a load of a register gives
abbrev pub value_of : ℕ → PlicState → Register → ℕ
value_of n p (Priority source) = priority p source
value_of n p (Pending word) = word_of p.pending word
value_of n p (Enable context word) = word_of (slice_index p.enables context) word
value_of n p (Threshold context) = threshold p context
value_of n p (Claim context) = claim n p context

-- the state after a load of a register
abbrev pub loaded : ℕ → PlicState → Register → PlicState
loaded n p (Priority source) = p
loaded n p (Pending word) = p
loaded n p (Enable context word) = p
loaded n p (Threshold context) = p
loaded n p (Claim context) = after_claim n p context

-- the state after a store of a word in a register; priorities and thresholds have three bits
abbrev pub stored : ℕ → PlicState → Register → ℕ → PlicState
stored n p (Priority source) v = record p { priorities = slice_set p.priorities source (v % 2 ^ 3) }
stored n p (Pending word) v = p
stored n p (Enable context word) v = record p {
  enables = slice_set p.enables context (with_word n (slice_index p.enables context) word v);
}
stored n p (Threshold context) v = record p { thresholds = slice_set p.thresholds context (v % 2 ^ 3) }
stored n p (Claim context) v = complete p context v

-- at no register a load gives 0, and a load or a store leaves all
abbrev pub value_at : ℕ → PlicState → Option Register → ℕ
value_at n p None = 0
value_at n p (Some register) = value_of n p register

abbrev pub loaded_at : ℕ → PlicState → Option Register → PlicState
loaded_at n p None = p
loaded_at n p (Some register) = loaded n p register

abbrev pub stored_at : ℕ → PlicState → Option Register → ℕ → PlicState
stored_at n p None v = p
stored_at n p (Some register) v = stored n p register v

-- what a load gives
unfoldable pub plic_load : Controller → ℕ → ℕ → ℕ
plic_load c at width = value_at c.sources c.state (reached c.sources c.contexts at width)

-- the state after a load
unfoldable pub plic_loaded : Controller → ℕ → ℕ → PlicState
plic_loaded c at width = loaded_at c.sources c.state (reached c.sources c.contexts at width)

-- the state after a store
unfoldable pub plic_stored : Controller → ℕ → ℕ → ℕ → PlicState
plic_stored c at width value = stored_at c.sources c.state (reached c.sources c.contexts at width) value
