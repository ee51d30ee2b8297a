use Rattle.std.proofs.Common.{◌≡◌, ◌-◌, drop}
use Rattle.lab_snap.specs.Rising.{rise}
use Rattle.lab_snap.proofs.valid.posts.do_rise.Given as goal

-- The posts rise where those from the last compared one on do.
abbrev pub invariant-loop-i : goal.invariant-loop-i
invariant-loop-i l = rise l.posts ≡ rise (drop (l.i - 1) l.posts)
