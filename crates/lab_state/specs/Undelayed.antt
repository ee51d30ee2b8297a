-- Rounds as they are where no hub holds anything back: all that was sent in a round is handed over at its end.
use Rattle.std.specs.Prelude.{◌≡◌, ℕ, ◌+◌, if◌then◌else◌, List, [], map, fold, find}
use Rattle.std.specs.List.{All, flat_map}
use Rattle.lab_num.specs.declared.key.Member.{Member}
use Rattle.lab_num.specs.Listing.{listing}
use Rattle.dev_core.specs.declared.post.Post.{Post}
use Rattle.dev_core.specs.Post.{post_key}
use Rattle.board.specs.View.{View, State}
use Rattle.lab_state.specs.Board.{Board}
use Rattle.lab_state.specs.Boundary.{Boundary, Handed, to_route}
use Rattle.lab_state.specs.Hub.{Hub, members_of}
use Rattle.lab_state.specs.Lab.{Lab}
use Rattle.lab_state.specs.Pending.{is_finish}
use Rattle.lab_state.specs.Round.{Rounded, granted, stepped, posts_made, ended}

-- no hub holds anything back
abbrev pub AreUndelayed : List Hub → Type 0
AreUndelayed hubs = All (λ hub. hub.delay ≡ 0) hubs

-- a post is handed to its route at once, and a finisher's to nobody
abbrev pub to_route_at_once : ℕ → List (List Member) → Handed → Post → Handed
to_route_at_once at hubs h post = if is_finish post then h else to_route at hubs h post

-- all posts of a round are handed over, in rising order of key, and none goes on waiting
abbrev pub undelayed_boundary : ℕ → List Hub → List Board → List Post → Boundary
undelayed_boundary at hubs boards posts =
    let none : Handed = record { boards = boards; notes = [] } in
    let handed = fold (to_route_at_once at (members_of hubs)) none (listing post_key posts) in
    record {
      boards = handed.boards;
      notes = handed.notes;
      pending = [];
      pause = find is_finish (listing post_key posts);
    }

-- the boundary at a microsecond, after all boards have taken their slots
abbrev pub met_undelayed : (View → State) → ℕ → Lab → Boundary
met_undelayed grant at lab =
    undelayed_boundary at lab.hubs (map (stepped grant) lab.boards) (flat_map (posts_made grant) lab.boards)

-- a round of this length
abbrev pub undelayed_round : Lab → ℕ → Rounded
undelayed_round lab q =
    ended granted (met_undelayed (granted lab.now (lab.now + q)) (lab.now + q) lab) lab q
