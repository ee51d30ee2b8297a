use Rattle.std.proofs.Common.{◌≡◌, take}
use Rattle.std.specs.List.{IsDistinct}
use Rattle.std.specs.Str.{bytes_eq}
use Rattle.lab_snap.proofs.valid.names.are_distinct.Given as goal

-- The names so far were seen, and differ.
abbrev pub invariant-loop-name : goal.invariant-loop-name
invariant-loop-name l = record {
  keys : l.seen.keys ≡ take l.name-index l.names;
  distinct : IsDistinct (λ a b. bytes_eq a.now b.now) (take l.name-index l.names);
}
