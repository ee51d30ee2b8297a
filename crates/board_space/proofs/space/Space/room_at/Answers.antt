use Rattle.std.proofs.Common.{◌≡◌, ◌∙◌, sym, ap, arith}
use Rattle.sys_bus.specs.declared.region.Target.TheVariants.{Ram}
use Rattle.sys_bus.specs.Region.{further, target_of}
use Rattle.board_space.proofs.FitLemmas.{room_fits, no_memory_above}
use Rattle.board_space.proofs.space.Space.room_at.Goals as goal

pub returns-then-at-from : goal.returns-then-at-from
returns-then-at-from g c =
    rw (← c.self.view_is) (no_memory_above _ c.args.at c.self.invariant.1
    (omega (arith, c.if-at-from.true, c.from.ensures)))

pub returns-in-Ram : goal.returns-in-Ram
returns-in-Ram g c =
    let there : target_of c.self.inside.plan.regions c.args.at 1 ≡ Ram c.in-Ram.part c.in-Ram.place =
    rw c.self.invariant.0 at (sym ((c.in-Ram.ensures {u = tt}).target)) in
    let fits = room_fits _ c.args.at c.in-Ram.part c.in-Ram.place c.self.invariant.1 there in
    rw (c.room.ensures, c.self.invariant.0, ← c.self.view_is)
    (record {
      some = fits.0;
      part = fits.1;
      lies = fits.2;
      bytes = λ i within.
          c.bytes_of_a_region_belong_together.ensures c.self.inside.plan.regions c.args.at i
          c.self.invariant.1.plan.apart within
          ∙ ap (λ target. further i target) there;
    })
