-- A handle inside.
use Rattle.std.specs.Prelude.{◌≤◌, ◌^◌}
use Rattle.time_handle.specs.declared.handle.Handle.TheInside.{Inside}
use Rattle.time_handle.specs.Grant.{Grant, paid_by}

abbrev pub grant_of : Inside → Grant
grant_of h = record { from = h.from.0; to = h.to.0; speed = h.speed; used = h.used }

abbrev pub handle_of : Grant → Inside
handle_of g = record {
  from = record { 0 = g.from };
  to = record { 0 = g.to };
  speed = g.speed;
  used = g.used;
}

pub record IsHandle (h : Inside) : Type 0 where
  pub order : h.from.0 ≤ h.to.0
  pub last : h.to.0 ≤ 10 ^ 10
  pub slowest : 1 ≤ h.speed
  pub fastest : h.speed ≤ 1000
  pub used : h.used ≤ paid_by (grant_of h)
