-- One more line that is no fence.
use Rattle.std.proofs.Common.{◌≡◌, ◌∙◌, ◌+◌, false, ap, sym, arith}
use Rattle.resc_vars.specs.Inner.Rest.{lines_of}
use Rattle.resc_vars.specs.Items.{is_fence_line}
use Rattle.resc_vars.specs.declared.item.Line.{Line}
use Rattle.std.specs.Option.{option_map}
use Rattle.std.specs.List.{position}
use Rattle.resc_vars.proofs.RestLemmas.{skips_one, skips_join, fence_later}
use Rattle.resc_vars.proofs.item.before_fence.Goals as goal

pub returns-then-is_fence-clause-after : goal.returns-then-is_fence-clause-after
returns-then-is_fence-clause-after c =
    skips_join c.loop-line.n 1 c.args.body c.loop-line.rest c.in_ok-line.later c.loop-line.invariant.skips
    (skips_one c.loop-line.rest c.in_ok-line.later _ c.in_ok-line.ensures.some c.in_ok-line.ensures.follows)

pub loop-line-preserved : goal.loop-line-preserved
loop-line-preserved c =
    let line : Line = record { number = c.loop-line.rest.number; text = c.in_ok-line.line.now } in
    let other : is_fence_line line ≡ false = sym c.is_fence.ensures ∙ c.if-is_fence.false in
    record {
      skips =
          skips_join c.loop-line.n 1 c.args.body c.loop-line.rest c.in_ok-line.later c.loop-line.invariant.skips
          (skips_one c.loop-line.rest c.in_ok-line.later line c.in_ok-line.ensures.some c.in_ok-line.ensures.follows);
      few = omega (arith, c.loop-line.invariant.few, c.in_ok-line.ensures.shorter);
      found =
          c.loop-line.invariant.found
          ∙ (ap (λ lines. option_map (λ k. k + c.loop-line.n) (position is_fence_line lines)) c.in_ok-line.ensures.some
          ∙ fence_later line (lines_of c.in_ok-line.later) c.loop-line.n other);
    }
