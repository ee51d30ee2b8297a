-- The search by fields is the search by masks.
use Rattle.std.proofs.Common.{◌∙◌, arith}
use Rattle.rv_atomic.proofs.Rows.{atomic_of-by}
use Rattle.rv_atomic.proofs.decoder.decode_atomic.Goals as goal

pub returns-in_err-op-clause-value : goal.returns-in_err-op-clause-value
returns-in_err-op-clause-value c =
    let none = c.in_err-op.was {u = tt} in
    let is = atomic_of-by c.args.word c.op_by_fields.result (omega arith) c.op_by_fields.ensures in
    c.from_residual.ensures ∙ rw none at is

pub returns-clause-value : goal.returns-clause-value
returns-clause-value c =
    let some = c.in_ok-op.was in
    let is = atomic_of-by c.args.word c.op_by_fields.result (omega arith) c.op_by_fields.ensures in
    rw (c.register.ensures.value, c.register-2.ensures.value, c.register-3.ensures.value) (rw some at is)
