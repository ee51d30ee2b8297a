-- What is handed over at the boundaries of rounds.
use Rattle.std.specs.Prelude.{ℕ, ◌+◌, ◌==◌, Bool, false, List, [], ◌∷◌, ◌++◌, map, find, Option}
use Rattle.std.specs.List.{flat_map, position}
use Rattle.std.specs.Option.{option_map_or}
use Rattle.lab_num.specs.declared.key.Member.{Member}
use Rattle.lab_num.specs.Listing.{listing}
use Rattle.lab_num.specs.Route.{has_member}
use Rattle.dev_core.specs.declared.post.Post.{Post}
use Rattle.dev_core.specs.Post.{post_key}
use Rattle.log_merge.specs.declared.item.LogItem.{LogItem}
use Rattle.lab_state.specs.Boundary.{Handed, handed_at, to_routes}
use Rattle.lab_state.specs.Hub.{Hub}
use Rattle.lab_state.specs.Lab.{Lab}
use Rattle.lab_state.specs.Pending.{is_finish}
use Rattle.lab_state.specs.Round.{granted, stepped, posts_made, slot_items, pause_items, round}

-- what the boards send in a round of this length
abbrev pub sent_in : Lab → ℕ → List Post
sent_in lab q = flat_map (posts_made (granted lab.now (lab.now + q))) lab.boards

-- what is handed over at the end of that round, in its order
abbrev pub handed_in : Lab → ℕ → List Post
handed_in lab q = handed_at (lab.now + q) lab.hubs lab.pending (sent_in lab q)

-- what the log says of the slots of that round, and of the pause that a finisher's post asked for in it
abbrev pub slots_in : Lab → ℕ → List LogItem
slots_in lab q = slot_items (granted lab.now (lab.now + q)) lab.boards

abbrev pub pause_in : Lab → ℕ → List LogItem
pause_in lab q = pause_items (lab.now + q) (find is_finish (listing post_key (sent_in lab q)))

-- the boards that have taken the slots of that round, after that is handed over and nothing else; and the notes of it
abbrev pub after_handing : Lab → ℕ → Handed
after_handing lab q =
    to_routes (lab.now + q) lab.hubs (map (stepped (granted lab.now (lab.now + q))) lab.boards) (handed_in lab q)

-- what is handed over in rounds of these lengths, one after another
abbrev pub handed_over : Lab → List ℕ → List Post
handed_over lab [] = []
handed_over lab (q ∷ qs) = handed_in lab q ++ handed_over (round lab q).lab qs

-- the number of the hub of a device, if it is in one
abbrev pub hub_number : List Hub → Member → Option ℕ
hub_number hubs m = position (λ hub. has_member hub.members m) hubs

-- whether a post is of a device of the hub of this number
abbrev pub is_of_hub : List Hub → ℕ → Post → Bool
is_of_hub hubs n post = option_map_or (λ k. k == n) (hub_number hubs post.from) false
