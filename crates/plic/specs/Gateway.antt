-- The gateways of a PLIC (RISC-V PLIC 1.0.0, "Interrupt Gateways" and "Interrupt Completion"). A gateway hands on one
-- request at a time: it shuts with the request, and a completion opens it again.
use Rattle.std.specs.Prelude.{ℕ, ◌&&◌, not, Bool, if◌then◌else◌, slice_index}
use Rattle.plic.specs.declared.state.PlicState.{PlicState}
use Rattle.plic.specs.Sources.{has, set_of, is_source, union, without}

-- whether a gateway hands a request on: its source's line is up, and it is open
abbrev pub is_raised : ℕ → ℕ → ℕ → ℕ → Bool
is_raised n shut lines source = is_source n source && has lines source && not (has shut source)

unfoldable pub raised : ℕ → ℕ → ℕ → ℕ
raised n shut lines = set_of (is_raised n shut lines)

-- the lines are sampled: each request that a gateway hands on makes its source pending, and shuts the gateway
unfoldable pub sample : ℕ → PlicState → ℕ → PlicState
sample n p lines =
    record p { pending = union p.pending (raised n p.shut lines); shut = union p.shut (raised n p.shut lines) }

-- whether a source is enabled in a context ("Interrupt Enables")
abbrev pub is_enabled : PlicState → ℕ → ℕ → Bool
is_enabled p context source = has (slice_index p.enables context) source

-- a completion by a context opens the gateway of a source that is enabled in it, and does nothing else
unfoldable pub complete : PlicState → ℕ → ℕ → PlicState
complete p context source =
    if is_enabled p context source then record p { shut = without p.shut source } else p
