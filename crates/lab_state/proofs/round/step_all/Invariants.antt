-- The boards so far have taken their slots, and the others are as they were.
use Rattle.std.proofs.Common.{◌≡◌, ◌++◌, map, take, drop}
use Rattle.std.specs.List.{flat_map}
use Rattle.log_merge.specs.Merge.{all_entries}
use Rattle.lab_state.specs.Inner.End.{in_round}
use Rattle.lab_state.specs.Round.{stepped, posts_made, entries_made}
use Rattle.lab_state.proofs.round.step_all.Given as goal

abbrev pub invariant-loop-n : goal.invariant-loop-n
invariant-loop-n g l = record {
  boards : l.boards ≡ map (stepped (in_round l.fn.from.0 l.fn.q)) (take l.n l.fn.boards) ++ drop l.n l.fn.boards;
  posts :
      l.made.posts.items
      ≡ l.fn.made.posts.items ++ flat_map (posts_made (in_round l.fn.from.0 l.fn.q)) (take l.n l.fn.boards);
  entries :
      all_entries l.made.entries.items
      ≡ all_entries l.fn.made.entries.items
      ++ flat_map (entries_made (in_round l.fn.from.0 l.fn.q)) (take l.n l.fn.boards);
}
