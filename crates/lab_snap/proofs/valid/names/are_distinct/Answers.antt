use Rattle.std.proofs.Common.{◌∙◌, true, false, refl, sym}
use Rattle.std.specs.Cmp.Lexicographic.{nat_list_eq_equiv}
use Rattle.std.specs.Str.{bytes_eq}
use Rattle.std.proofs.lemmas.Bool.{false≢true, not-false}
use Rattle.std.proofs.lemmas.List.{take_all}
use Rattle.lab_snap.proofs.DistinctLemmas.{distinct_map, distinct_unmap, twice_at}
use Rattle.lab_snap.proofs.valid.names.are_distinct.Goals as goal

pub returns-then-not-branch : goal.returns-then-not-branch
returns-then-not-branch c = (
  λ never. absurd (false≢true never),
  λ distinct.
      let again = not-false _ (sym c.in_ok-insert.ensures.added ∙ c.if-not-branch.true) in
      absurd (twice_at (λ a b. bytes_eq a.now b.now) (λ a b. nat_list_eq_equiv.symm a.now b.now) c.args.names.now
      c.loop-name.name-index _ c.loop-name-test.true (rw c.loop-name.invariant.keys at again)
      (distinct_unmap (λ name. name.now) bytes_eq c.args.names.now distinct)),
)

pub returns : goal.returns
returns c = (
  λ yes. distinct_map (λ name. name.now) bytes_eq c.args.names.now
      (rw (take_all c.loop-name.name-index c.args.names.now c.loop-name-test.false) at c.loop-name.invariant.distinct),
  λ distinct. refl,
)
