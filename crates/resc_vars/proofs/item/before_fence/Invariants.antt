use Rattle.std.proofs.Common.{◌≡◌, ◌≤◌, ◌+◌, ◌^◌, length, position}
use Rattle.std.specs.Option.{option_map}
use Rattle.resc_vars.specs.Inner.Rest.{Skips, lines_of}
use Rattle.resc_vars.specs.Items.{is_fence_line}
use Rattle.resc_vars.proofs.item.before_fence.Given as goal

abbrev pub invariant-loop-line : goal.invariant-loop-line
invariant-loop-line l = record {
  skips : Skips l.n l.fn.body l.rest;
  few : l.n + length l.rest.text.now ≤ 2 ^ 24 + 1;
  found : position is_fence_line (lines_of l.fn.body)
      ≡ option_map (λ k. k + l.n) (position is_fence_line (lines_of l.rest));
}

abbrev pub decreases-loop-line : goal.decreases-loop-line
decreases-loop-line l = length l.rest.text.now
