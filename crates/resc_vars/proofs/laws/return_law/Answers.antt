use Rattle.std.proofs.Common.{ap}
use Rattle.resc_vars.specs.Numbered.{numbered}
use Rattle.resc_vars.proofs.laws.return_law.Goals as goal

pub returns : goal.returns
returns c = λ file text none.
    ap (λ lines. record { file = file; lines = numbered 1 lines }) (c.return_law.ensures text none)
