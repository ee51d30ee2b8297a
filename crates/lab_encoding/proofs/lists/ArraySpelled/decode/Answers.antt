use Rattle.std.proofs.Common.{◌<◌, ◌≤◌, ◌∙◌, length, arith}
use Rattle.std.proofs.lemmas.Result.{err_from_is_err_and}
use Rattle.std.proofs.lemmas.List.{take_more_set, take_all, length-set}
use Rattle.lab_encoding.specs.Inner.Fronts.{is_fault}
use Rattle.lab_encoding.proofs.ListLoops.{half_read_more, half_read_bad, half_read_all}
use Rattle.lab_encoding.proofs.lists.ArraySpelled.decode.Goals as goal

pub returns-in_err-values : goal.returns-in_err-values
returns-in_err-values g c =
    let p = err_from_is_err_and c.from_residual.result c.from_residual.ensures.1 in
    rw (p.1, p.2)
    (is_fault c.in_err-values.field-0.0 _ _ c.decode.new.reader c.in_err-values.ensures
    (λ none. half_read_bad _ _ _ _ _ _ c.loop-i-test.true none c.loop-i.invariant.so_far))

pub loop-i-preserved : goal.loop-i-preserved
loop-i-preserved g c =
    let in_range : c.loop-i.i < length c.loop-i.values = omega (arith, c.loop-i.invariant.length, c.loop-i-test.true) in
    record {
      length = length-set _ _ _ ∙ c.loop-i.invariant.length;
      so_far = rw (take_more_set c.loop-i.values c.loop-i.i c.in_ok-values.field-0 in_range)
          (half_read_more _ _ _ _ _ _ _ _ c.loop-i-test.true c.in_ok-values.ensures c.loop-i.invariant.so_far);
    }

pub returns : goal.returns
returns g c =
    let whole : length c.loop-i.values ≤ c.loop-i.i = omega (arith, c.loop-i.invariant.length, c.loop-i-test.false) in
    let h = half_read_all _ _ _ _ _ _ c.loop-i-test.false c.loop-i.invariant.so_far in
    rw (take_all c.loop-i.i c.loop-i.values whole) at h
