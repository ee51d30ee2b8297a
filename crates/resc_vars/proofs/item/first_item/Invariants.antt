use Rattle.std.proofs.Common.{◌≡◌, length}
use Rattle.resc_vars.specs.Inner.Rest.{Follows, lines_of}
use Rattle.resc_vars.specs.Items.{items}
use Rattle.resc_vars.proofs.item.first_item.Given as goal

abbrev pub invariant-loop-line : goal.invariant-loop-line
invariant-loop-line l = record {
  follows : Follows l.lines l.rest;
  passed : items 0 (lines_of l.lines) ≡ items 0 (lines_of l.rest);
}

abbrev pub decreases-loop-line : goal.decreases-loop-line
decreases-loop-line l = length l.rest.text.now
