-- The stores have an opcode of their own.
use Rattle.std.proofs.Common.{◌==◌, ◌∙◌, sym, ap}
use Rattle.rv_atomic.proofs.StoreLemmas.{other_ends_none}
use Rattle.rv_atomic.proofs.span.is_store.Goals as goal

pub returns-clause-plain : goal.returns-clause-plain
returns-clause-plain c = λ other watch.
    other_ends_none c.args.word watch (ap (λ v. v == 0x23) (sym c.bits.ensures.value) ∙ other)
