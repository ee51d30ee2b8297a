use Rattle.std.proofs.Common.{◌≡◌, ◌++◌, map, take}
use Rattle.std.specs.List.{IsDistinct}
use Rattle.indexmap.specs.IndexMap.{keys}
use Rattle.lab_num.specs.Key.{same_member}
use Rattle.lab_snap.proofs.valid.hubs.add_members.Given as goal

-- The members so far were added, and differ if those before them did.
abbrev pub invariant-loop-member : goal.invariant-loop-member
invariant-loop-member l = record {
  entries : l.delays.entries ≡ l.fn.delays.entries ++ map (λ m. (m, l.hub.delay)) (take l.member-index l.members);
  distinct : IsDistinct same_member (keys l.fn.delays) → IsDistinct same_member (keys l.delays);
}
