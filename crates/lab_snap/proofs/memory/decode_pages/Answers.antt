use Rattle.std.proofs.Common.{◌≡◌, ◌∙◌, ◌*◌, take, length, sym, ap, true, false, arith}
use Rattle.std.proofs.lemmas.Result.{err_from_is_err_and}
use Rattle.std.proofs.lemmas.List.{length-replicate, length-take}
use Rattle.lab_snap.specs.Inner.Pages.{is_next}
use Rattle.lab_snap.proofs.PageLoops.{page_read, page_short, no_page, half_loaded_more, half_loaded_bad}
use Rattle.lab_snap.proofs.PageLoops.{half_loaded_none, half_loaded_refused, half_loaded_all, into_fault}
use Rattle.lab_snap.specs.Inner.PageTests.{next_is}
use Rattle.lab_snap.proofs.memory.decode_pages.Goals as goal

pub loop-init : goal.loop-init
loop-init c = record {
  size = ap length c.requires ∙ length-replicate (4096 * c.args.pages) 0;
  so_far = half_loaded_none 4096 c.args.pages c.args.count c.args.reader.now c.args.memory.now;
}

pub returns-in_err-number-clause-reads : goal.returns-in_err-number-clause-reads
returns-in_err-number-clause-reads c =
    let p = err_from_is_err_and c.from_residual.result c.from_residual.ensures.1 in
    rw (p.1, p.2) (into_fault c.in_err-number.field-0.0 _ _ c.decode.new.reader c.loop.memory c.decode.new.reader
    c.in_err-number.ensures
    (λ none. half_loaded_bad 4096 _ _ _ _ _ _ _ _ c.requires c.loop-test.true (no_page 4096 _ none)
    c.loop.invariant.so_far))

pub returns-in_err-page-clause-reads : goal.returns-in_err-page-clause-reads
returns-in_err-page-clause-reads c =
    let p = err_from_is_err_and c.from_residual-in_err-page.result c.from_residual-in_err-page.ensures.1 in
    rw (p.1, p.2, c.in_err-page.ensures.short.0)
    (half_loaded_bad 4096 _ _ _ _ _ _ _ _ c.requires c.loop-test.true
    (page_short 4096 _ _ _ c.in_ok-number.ensures c.in_err-page.ensures.short.1) c.loop.invariant.so_far)

pub returns-then-not-is_next-clause-reads : goal.returns-then-not-is_next-clause-reads
returns-then-not-is_next-clause-reads c =
    let read = page_read 4096 _ _ _ c.in_ok-number.ensures c.in_ok-page.ensures.long in
    let refused : is_next c.args.pages c.loop.low (c.in_ok-number.number, take 4096 c.decode.new.reader) ≡ false =
    rw (← c.in_ok-page.ensures.front) (sym c.if-not-is_next.ensures) in
    half_loaded_refused 4096 _ _ _ _ _ _ _ _ _ _ _ c.requires c.loop-test.true read refused c.loop.invariant.so_far

pub put_page-requires-clause-fits : goal.put_page-requires-clause-fits
put_page-requires-clause-fits c =
    let next = next_is c.args.pages c.loop.low (c.in_ok-number.number, c.in_ok-page.page.now)
    (sym c.if-not-is_next.ensures) in
    let below = next.below_top in
    let size = c.loop.invariant.size in
    omega arith

pub put_page-requires-clause-size : goal.put_page-requires-clause-size
put_page-requires-clause-size c =
    rw c.in_ok-page.ensures.front
    (let long = c.in_ok-page.ensures.long in omega (arith, length-take 4096 c.decode.new.reader))

pub loop-preserved : goal.loop-preserved
loop-preserved c =
    let read = page_read 4096 _ _ _ c.in_ok-number.ensures c.in_ok-page.ensures.long in
    let next : is_next c.args.pages c.loop.low (c.in_ok-number.number, take 4096 c.decode.new.reader) ≡ true =
    rw (← c.in_ok-page.ensures.front) (sym c.if-not-is_next.ensures) in
    record {
      size = c.in_ok-put_page.ensures.size ∙ c.loop.invariant.size;
      so_far = rw (c.in_ok-put_page.ensures.ok, c.in_ok-page.ensures.front, c.in_ok-page.ensures.rest)
          (half_loaded_more 4096 _ _ _ _ _ _ _ _ _ _ _ c.loop-test.true read next c.loop.invariant.so_far);
    }

pub returns-clause-reads : goal.returns-clause-reads
returns-clause-reads c = half_loaded_all 4096 _ _ _ _ _ _ _ _ c.requires c.loop-test.false c.loop.invariant.so_far
