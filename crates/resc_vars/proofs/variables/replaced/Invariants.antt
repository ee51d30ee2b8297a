use Rattle.std.proofs.Common.{◌≡◌, ◌++◌, length}
use denote.Text.{Utf8}
use denote.Shadow.{shadow}
use Rattle.std.specs.Option.{option_map}
use Rattle.std.specs.String.{string_bytes}
use Rattle.resc_vars.specs.Variables.{replaced}
use Rattle.resc_vars.proofs.variables.replaced.Given as goal

abbrev pub invariant-pieces : goal.invariant-pieces
invariant-pieces l =
    shadow (Utf8 l.rest)
    × (option_map (λ more. string_bytes l.made ++ more) (replaced l.variables.entries l.rest)
    ≡ replaced l.variables.entries l.line)

abbrev pub decreases-pieces : goal.decreases-pieces
decreases-pieces l = length l.rest
