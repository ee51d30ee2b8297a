-- The stores alone store.
use Rattle.std.proofs.Common.{◌∙◌, ap, sym}
use Rattle.rv_exec.specs.Word.{add}
use Rattle.rv_atomic.specs.Inner.StoreWidth.{aligned_span}
use Rattle.rv_atomic.proofs.SpanLemmas.{span-by}
use Rattle.rv_atomic.proofs.span.span_of_instr.Goals as goal

pub returns-in-Some : goal.returns-in-Some
returns-in-Some c =
    λ size word lines.
    let some = sym c.store_width.ensures.value ∙ c.in-Some.is in
    let by = span-by c.args.i.now.op c.args.hart.now c.args.i.now size word lines in
    c.aligned_span.ensures ∙
    (ap (λ v. aligned_span (add v c.args.i.now.imm) c.in-Some.width) c.register.ensures.value ∙ rw some at by)

pub returns-in-None : goal.returns-in-None
returns-in-None c =
    λ size word lines.
    let none = sym c.store_width.ensures.value ∙ c.in-None.is in
    let by = span-by c.args.i.now.op c.args.hart.now c.args.i.now size word lines in
    rw none at by
