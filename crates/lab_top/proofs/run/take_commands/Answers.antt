use Rattle.std.proofs.Common.{◌∙◌, ◌-◌, arith}
use Rattle.lab_top.proofs.Lending.{uses_as, uses_none, uses_on}
use Rattle.lab_top.proofs.Onward.{at_turn, goes_further, turn_goes}
use Rattle.lab_top.proofs.run.take_commands.Goals as goal

pub returns-in-Err-clause-course : goal.returns-in-Err-clause-course
returns-in-Err-clause-course g c = λ held is kept keeps.
    let now = c.commands in
    let on = now.invariant.course held is kept keeps in
    on.course _ _
    (rw (at_turn now._turn held on.now now.monitor.state (omega (arith, now.invariant.counted, now.invariant.few)))
    (c.in-Err.ensures.course held (now.invariant.outside.reads.held ∙ is) on.now on.told (100000 - now._turn)))

pub commands-init : goal.commands-init
commands-init g c = record {
  course = λ held is kept keeps. record { now = kept; told = keeps; course = λ status new course. course };
  goes_on = c.requires.goes_on;
  counted = omega arith;
  few = c.requires.few;
  outside = uses_none (λ status none. none);
}

pub commands-preserved : goal.commands-preserved
commands-preserved g c =
    let now = c.commands in
    record {
      course = λ held is kept keeps.
          let on = now.invariant.course held is kept keeps in
          goes_further on
          (turn_goes now._turn held on.now now.monitor.state c.in-Ok.next.state
          (omega (arith, now.invariant.counted, now.invariant.few))
          (c.in-Ok.ensures.course held (now.invariant.outside.reads.held ∙ is) on.now on.told (100000 - now._turn)));
      goes_on = c.in-Ok.ensures.next.0;
      counted = omega (arith, now.invariant.counted, c.in-Ok.ensures.next);
      few = c.in-Ok.ensures.next.2.1;
      outside = uses_on now.invariant.outside (uses_as (λ status none. absurd none) c.take_command.ensures.outside);
    }
