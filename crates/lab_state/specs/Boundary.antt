-- The boundary between two rounds, at which what the boards have sent is handed over as far as it is due.
use Rattle.std.specs.Prelude.{ℕ, Bool, not, if◌then◌else◌, List, [], ◌++◌, Option, None, Some, option_and_then}
use Rattle.std.specs.Prelude.{filter, fold, find}
use Rattle.std.specs.Option.{option_map, option_to_list}
use Rattle.lab_num.specs.declared.key.Member.{Member}
use Rattle.lab_num.specs.Listing.{listing}
use Rattle.lab_num.specs.Route.{route}
use Rattle.dev_core.specs.declared.payload.Payload.{Payload}
use Rattle.dev_core.specs.declared.payload.Payload.TheVariants as payload
use Rattle.dev_core.specs.declared.payload.Taken.{Taken}
use Rattle.dev_core.specs.declared.payload.Taken.TheVariants.{Kept, Refused, Overrun}
use Rattle.dev_core.specs.declared.post.Post.{Post}
use Rattle.dev_core.specs.Post.{post_key}
use Rattle.log_merge.specs.declared.item.LogItem.{LogItem}
use Rattle.log_merge.specs.declared.item.LogItem.TheVariants as item
use Rattle.log_merge.specs.declared.item.Note.{Note}
use Rattle.log_merge.specs.declared.item.Note.TheVariants as note
use Rattle.board.specs.Changes.{handed, taken_by}
use Rattle.board.specs.Space.{device_at}
use Rattle.board.specs.View.{View}
use Rattle.lab_state.specs.Board.{Board}
use Rattle.lab_state.specs.Hub.{Hub, members_of}
use Rattle.lab_state.specs.Pending.{is_finish, is_of_a_hub, is_due}
use Rattle.lab_num.specs.Change.{change_at}
use Rattle.lab_state.specs.One.{with_view, view_at}

-- what the log notes of a payload that a device was handed, by its answer: a byte that had no room, and a frame that
-- was kept or had none
abbrev pub note_of : Payload → Taken → Option Note
note_of (payload.Byte byte) Kept = None
note_of (payload.Byte byte) Refused = None
note_of (payload.Byte byte) Overrun = Some note.Overrun
note_of (payload.Frame frame) Kept = Some (note.Received frame)
note_of (payload.Frame frame) Refused = None
note_of (payload.Frame frame) Overrun = Some (note.Lost frame)
note_of (payload.Finish finish) taken = None

-- and of a device that is not shown, nothing
abbrev pub note_if : Bool → Payload → Taken → Option Note
note_if shown payload taken = if shown then note_of payload taken else None

-- what the log notes of a payload that a device of a board is handed
abbrev pub note_by : ℕ → Payload → View → Option Note
note_by dev payload v = note_if (device_at v.space dev).shown payload (taken_by v dev payload)

-- a note of a device at a boundary
abbrev pub note_item : ℕ → Member → Note → LogItem
note_item at m note = item.Note (record { 0 = at }) m note

-- boards that were handed something, and what the log notes of it
pub record Handed : Type 0 where
  pub boards : List Board
  pub notes : List LogItem

-- a payload is handed to one device
abbrev pub to_member : ℕ → Payload → Handed → Member → Handed
to_member at payload h m =
    let note = option_and_then (note_by m.dev payload) (view_at h.boards m.board.0) in
    record {
      boards = change_at h.boards m.board.0 (with_view (λ v. handed v m.dev payload));
      notes = h.notes ++ option_to_list (option_map (note_item at m) note);
    }

-- a post is handed to each other member of its device's hub once, in order of connection
abbrev pub to_route : ℕ → List (List Member) → Handed → Post → Handed
to_route at hubs h post = fold (to_member at post.payload) h (route hubs post.from)

-- the posts one after another
abbrev pub to_routes : ℕ → List Hub → List Board → List Post → Handed
to_routes at hubs boards posts =
    fold (to_route at (members_of hubs)) (record { boards = boards; notes = [] }) posts

-- the posts that wait once those of a round that are for other devices have joined, in rising order of key
abbrev pub waiting : List Hub → List Post → List Post → List Post
waiting hubs pending posts = listing post_key (pending ++ filter (is_of_a_hub hubs) posts)

-- those that are due by a microsecond, and those that are not
abbrev pub due : ℕ → List Hub → List Post → List Post
due at hubs posts = filter (is_due at hubs) posts

abbrev pub not_due : ℕ → List Hub → List Post → List Post
not_due at hubs posts = filter (λ post. not (is_due at hubs post)) posts

-- what is handed over at a boundary of what was pending and what was sent in the round, in its order
abbrev pub handed_at : ℕ → List Hub → List Post → List Post → List Post
handed_at at hubs pending posts = due at hubs (waiting hubs pending posts)

-- and what goes on waiting
abbrev pub kept_at : ℕ → List Hub → List Post → List Post → List Post
kept_at at hubs pending posts = not_due at hubs (waiting hubs pending posts)

-- What a boundary comes to: the boards, what the log notes of what they were handed, the posts that go on waiting, and
-- the post by which a pause was asked for, if one was.
pub record Boundary : Type 0 where
  pub boards : List Board
  pub notes : List LogItem
  pub pending : List Post
  pub pause : Option Post

-- The posts of a round join those that are pending. What is due by then is handed over, in rising order of key, and is
-- pending no more. The first post that a finisher made in the round asks for a pause.
unfoldable pub boundary : ℕ → List Hub → List Board → List Post → List Post → Boundary
boundary at hubs boards pending posts =
    let handed = to_routes at hubs boards (handed_at at hubs pending posts) in
    record {
      boards = handed.boards;
      notes = handed.notes;
      pending = kept_at at hubs pending posts;
      pause = find is_finish (listing post_key posts);
    }
