use Rattle.std.proofs.Common.{◌≡◌, ◌++◌, take, All}
use Rattle.std.specs.List.{flat_map}
use Rattle.lab_encoding.proofs.lists.encode_each.Given as goal

abbrev pub invariant-loop-item : goal.invariant-loop-item
invariant-loop-item g l = record {
  spelled : l.out.items ≡ l.initial.out.items ++ flat_map g.T.Spelled.form.spell (take l.item-index l.items);
  fits : All g.T.Spelled.form.Fits (take l.item-index l.items);
}
