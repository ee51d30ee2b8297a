-- The laws, from their lemmas.
use Rattle.repl_read.proofs.BlankLemmas.{platform_blanked}
use Rattle.repl_read.proofs.ValidLines.{platform_entries}
use Rattle.repl_read.proofs.ReturnLemmas.{platform_returns}
use Rattle.repl_read.proofs.FaultLemmas.{platform-fault}
use Rattle.repl_read.proofs.laws.platform_laws.Goals as goal

pub returns-clause-comments : goal.returns-clause-comments
returns-clause-comments c = platform_blanked

pub returns-clause-entries : goal.returns-clause-entries
returns-clause-entries c = platform_entries

pub returns-clause-returns : goal.returns-clause-returns
returns-clause-returns c = platform_returns c.return_law.ensures

pub returns-clause-faults : goal.returns-clause-faults
returns-clause-faults c = λ text. platform-fault text
