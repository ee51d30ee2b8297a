use Rattle.std.proofs.lemmas.Result.{err_from_is_err_and}
use Rattle.lab_encoding.specs.Inner.Fronts.{is_fault}
use Rattle.lab_encoding.proofs.ListLoops.{half_read_more, half_read_bad, half_read_all}
use Rattle.lab_encoding.proofs.lists.decode_times.Goals as goal

pub returns-in_err-decode : goal.returns-in_err-decode
returns-in_err-decode g c =
    let p = err_from_is_err_and c.from_residual.result c.from_residual.ensures.1 in
    rw (p.1, p.2)
    (is_fault c.in_err-decode.field-0.0 _ _ c.decode.new.reader c.in_err-decode.ensures
    (λ none. half_read_bad _ _ _ _ _ _ c.loop-test.true none c.loop.invariant))

pub loop-preserved : goal.loop-preserved
loop-preserved g c =
    rw c.in_ok-push.ensures.items
    (half_read_more _ _ _ _ _ _ _ _ c.loop-test.true c.in_ok-decode.ensures c.loop.invariant)

pub returns : goal.returns
returns g c = rw c.of.ensures (half_read_all _ _ _ _ _ _ c.loop-test.false c.loop.invariant)
