use Rattle.std.proofs.Common.{◌≡◌, take}
use Rattle.std.specs.List.{IsDistinct, flat_map}
use Rattle.indexmap.specs.IndexMap.{keys}
use Rattle.lab_num.specs.Key.{same_member}
use Rattle.lab_snap.specs.Inner.Parts.{places}
use Rattle.lab_snap.proofs.valid.hubs.delays.Given as goal

-- The members of the hubs so far were added, and differ.
abbrev pub invariant-loop-hub : goal.invariant-loop-hub
invariant-loop-hub l = record {
  entries : l.delays.entries ≡ flat_map places (take l.hub-index l.hubs);
  distinct : IsDistinct same_member (keys l.delays);
}
