use Rattle.std.proofs.Common.{◌≡◌}
use Rattle.std.specs.Arc.{arc_value}
use Rattle.crossbeam_queue.specs.SegTies.{IsSegPassOf}
use Rattle.hub_mail.specs.Inner.Steps.{owner}
use Rattle.hub_mail.proofs.mail.Boss.drain.Given as goal

abbrev pub invariant-loop : goal.invariant-loop
invariant-loop g l = record {
  can_next : (goal.iterator-loop g).can_next l.iterator';
  ends : (goal.iterator-loop g).is_finite l.iterator';
  of_mail : IsSegPassOf (arc_value l.shared).queue l.seat;
  drawn : l.seat.me.view.client ≡ owner l.fn.self.count l.posts.items l.fn.self.taken;
}
