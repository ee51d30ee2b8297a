-- Which registers a PLIC of so many sources and contexts has.
use Rattle.std.specs.Prelude.{ℕ, ◌<◌, ◌≤◌}
use Rattle.plic.specs.declared.register.Register.{Register}
use Rattle.plic.specs.declared.register.Register.TheVariants.{Priority, Pending, Enable, Threshold, Claim}

abbrev pub IsThere : ℕ → ℕ → Register → Type 0
IsThere sources contexts (Priority source) = (1 ≤ source) × (source ≤ sources)
IsThere sources contexts (Pending word) = word < 4
IsThere sources contexts (Enable context word) = (context < contexts) × (word < 4)
IsThere sources contexts (Threshold context) = context < contexts
IsThere sources contexts (Claim context) = context < contexts
