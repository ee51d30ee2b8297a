-- The laws of acceptance.
use Rattle.std.proofs.Common.{◌∙◌, sym}
use Rattle.can_sja1000.proofs.AcceptanceLemmas.{refused_alike}
use Rattle.can_sja1000.proofs.laws.acceptance_laws.Goals as goal

pub returns-clause-refused : goal.returns-clause-refused
returns-clause-refused _ = λ c d f g here there code mask upper. (
  refused_alike c d f g (here ∙ sym there) code mask upper,
  refused_alike d c g f (there ∙ sym here) (sym code) (sym mask) (sym upper),
)
