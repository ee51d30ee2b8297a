use Rattle.std.proofs.Common.{◌≡◌, ◌+◌, drop}
use Rattle.log_text.specs.Inner.Place.{place_of}
use Rattle.log_text.proofs.lines.Lines.place_of.Given as goal

-- All lines so far are of lower members.
abbrev pub invariant-loop-i : goal.invariant-loop-i
invariant-loop-i l = place_of l.member l.self ≡ l.i + place_of l.member (drop l.i l.self)
