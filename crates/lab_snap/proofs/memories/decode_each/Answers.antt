use Rattle.std.proofs.Common.{◌≡◌, length, refl, arith, slice_index_or}
use Rattle.std.proofs.lemmas.List.{map_push, take_more}
use Rattle.std.proofs.lemmas.Result.{err_from_is_err_and}
use Rattle.lab_encoding.specs.Inner.Fronts.{is_fault}
use Rattle.lab_snap.proofs.EachLoops.{half_read_all, half_read_bad, half_read_more}
use Rattle.lab_snap.proofs.memories.decode_each.Goals as goal

pub returns-in_err-decode_memory-clause-reads : goal.returns-in_err-decode_memory-clause-reads
returns-in_err-decode_memory-clause-reads c =
    let p = err_from_is_err_and c.from_residual.result c.from_residual.ensures.1 in
    rw (p.1, p.2)
    (is_fault c.in_err-decode_memory.field-0.0 _ _ c.decode_memory.new.reader c.in_err-decode_memory.ensures.part
    (λ none. half_read_bad _ _ _ _ _ _ 0 c.loop-size-test.true none c.loop-size.invariant.so_far))

pub loop-size-preserved : goal.loop-size-preserved
loop-size-preserved c =
    let whole = (c.requires c.loop-size.size-index 0 c.loop-size-test.true).0 in
    let size = c.in_ok-decode_memory.ensures.size in
    let same : length c.in_ok-decode_memory.field-0 ≡ slice_index_or c.args.sizes.now c.loop-size.size-index 0 =
    omega (arith, whole, size) in
    rw c.in_ok-push.ensures.items (record {
      so_far = half_read_more _ _ _ _ _ _ 0 _ _ c.loop-size-test.true c.in_ok-decode_memory.ensures.part
          c.loop-size.invariant.so_far;
      sizes = rw (
        map_push length c.loop-size.memories.items c.in_ok-decode_memory.field-0,
        take_more c.args.sizes.now c.loop-size.size-index 0 c.loop-size-test.true,
        c.loop-size.invariant.sizes,
        same,
      )
          refl;
    })

pub returns-clause-reads : goal.returns-clause-reads
returns-clause-reads c =
    rw c.of.ensures (half_read_all _ _ _ _ _ _ c.loop-size-test.false c.loop-size.invariant.so_far)
