-- The fields of a valid instruction fit.
use Rattle.rv_atomic.proofs.span.span_stored.Goals as goal

pub span_of_instr-requires : goal.span_of_instr-requires
span_of_instr-requires c = c.valid_fits.ensures c.in-Good.instr (rw c.in-Good.is at c.requires).0
