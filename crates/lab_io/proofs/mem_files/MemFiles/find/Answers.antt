-- The map is made of all entries, and each turn takes the first of those that are left.
use Rattle.std.proofs.Common.{ap, sym, ◌∙◌, map, refl}
use Rattle.std.specs.Ordering.{nat_cmp}
use Rattle.std.specs.Cmp.Lexicographic.{slice_cmp, nat_list_cmp_total}
use Rattle.std.specs.FinMap.{get, find, get-from_entries}
use Rattle.std.specs.VecDeque.Iter.{deque_iter_rest}
use Rattle.lab_io.specs.FilesSeen.{entry_of}
use Rattle.lab_io.proofs.Find.{find_first}
use Rattle.lab_io.proofs.mem_files.MemFiles.find.Goals as goal

pub loop-stored-init : goal.loop-stored-init
loop-stored-init c =
    ap (λ files. get files.held c.args.name.now) (sym c.self.view_is)
    ∙ get-from_entries nat_list_cmp_total _ _
    ∙ ap (λ es. find (slice_cmp nat_cmp) c.args.name.now (map entry_of es))
    (sym c.into_iter-stored-iterator.ensures.into_iter_gives.0)

pub returns-then-eq : goal.returns-then-eq
returns-then-eq c =
    let first =
    find_first c.args.name.now c.as_str.result.now c.in-Some.stored.now.bytes.items
    (map entry_of (deque_iter_rest c.next.new.self)) c.eq.result c.eq.ensures in
    rw (
      c.loop-stored.invariant,
      c.in-Some.ensures.steps,
      ← c.as_str.ensures.value,
      first,
      c.if-eq.true,
      c.as_slice.ensures.value,
    ) refl

pub loop-stored-preserved : goal.loop-stored-preserved
loop-stored-preserved c =
    let first =
    find_first c.args.name.now c.as_str.result.now c.in-Some.stored.now.bytes.items
    (map entry_of (deque_iter_rest c.next.new.self)) c.eq.result c.eq.ensures in
    rw (c.loop-stored.invariant, c.in-Some.ensures.steps, ← c.as_str.ensures.value, first, c.if-eq.false) refl
