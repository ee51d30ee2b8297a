use Rattle.std.proofs.Common.{refl, rules}
use Rattle.std.proofs.lemmas.List.{take-map}
use Rattle.time_source.proofs.SourceLemmas.{renewed-ends}
use Rattle.time_source.proofs.source.Source.grant.Goals as goal

pub invariant_of-self : goal.invariant_of-self
invariant_of-self c = record {
  count = c.self.invariant.count;
  last = search rules;
  ends = rw c.renew.ensures (renewed-ends _ _ c.self.inside.count c.self.inside.places);
}

pub returns : goal.returns
returns c = rw (← c.self.view_is, c.renew.ensures, take-map) refl
