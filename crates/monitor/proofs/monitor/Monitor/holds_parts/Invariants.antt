-- The parts so far have their places.
use Rattle.std.proofs.Common.{◌≡◌, take, true}
use Rattle.std.specs.List.{list_all}
use Rattle.std.specs.Option.{ForSome}
use Rattle.lab_state.specs.One.{view_of}
use Rattle.monitor.specs.Images.{holds_part}
use Rattle.monitor.proofs.monitor.Monitor.holds_parts.Given as goal

abbrev pub invariant-loop-part : goal.invariant-loop-part
invariant-loop-part g l =
    ForSome (view_of l.self.state.lab l.b.0)
    (λ v. list_all (holds_part v) (take l.part-index l.parts) ≡ true)
