use Rattle.std.proofs.Common.{◌≡◌, ◌*◌, ◌^◌, ◌≤◌, map, sum, take, string_bytes}
use Rattle.std.specs.List.{flat_map}
use Rattle.lab_gen.specs.Summary.{line_of, posts_of}
use Rattle.lab_gen.proofs.summary.summary.Given as goal

-- The lines of the boards so far were written, and their posts counted.
abbrev pub invariant-loop-b : goal.invariant-loop-b
invariant-loop-b g l = record {
  lines : string_bytes l.text ≡ flat_map line_of (take l.b l.lab.lab.boards);
  total : l.total ≡ sum (map posts_of (take l.b l.lab.lab.boards));
  few : l.total ≤ l.b * 2 ^ 64;
}
