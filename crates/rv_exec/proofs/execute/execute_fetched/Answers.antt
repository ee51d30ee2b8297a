-- The fields of a valid instruction fit.
use Rattle.rv_exec.proofs.execute.execute_fetched.Goals as goal

pub execute-requires-clause-fields : goal.execute-requires-clause-fields
execute-requires-clause-fields g c = c.valid_fits.ensures c.in-Good.instr (rw c.in-Good.is at c.requires).0
