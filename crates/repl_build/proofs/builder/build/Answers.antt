-- What is given is valid.
use Rattle.std.proofs.Common.{subst}
use Rattle.repl_build.specs.Plan.{Builds}
use Rattle.repl_build.proofs.ValidLemmas.{given_valid}
use Rattle.repl_build.proofs.builder.build.Goals as goal

pub returns-clause-valid : goal.returns-clause-valid
returns-clause-valid c =
    let builds = subst (λ entries. Builds entries c.plan_or_fault.result) c.deref.ensures.value
    c.plan_or_fault.ensures in
    given_valid c.args.entries.items c.plan_or_fault.result builds
