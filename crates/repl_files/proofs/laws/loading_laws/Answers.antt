-- The laws, from their lemmas.
use Rattle.repl_files.proofs.LoadingLaws.{load_few, load_ends, load_from}
use Rattle.repl_files.proofs.laws.loading_laws.Goals as goal

pub returns-clause-few : goal.returns-clause-few
returns-clause-few c = load_few

pub returns-clause-ends : goal.returns-clause-ends
returns-clause-ends c = load_ends

pub returns-clause-entries : goal.returns-clause-entries
returns-clause-entries c = load_from
