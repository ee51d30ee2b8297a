-- The bytes that the effect of an instruction stores.
use Rattle.std.specs.Prelude.{Option, Some, None}
use Rattle.rv_exec.specs.Effect.{Effect, Done, Load, Store}
use Rattle.rv_atomic.specs.declared.span.Span.{Span}

-- where an effect stores, and how many bytes
abbrev pub span_of : Effect → Option Span
span_of (Done outcome) = None
span_of (Load at width complete) = None
span_of (Store at width value outcome) = Some (record { at = at; width = width })
