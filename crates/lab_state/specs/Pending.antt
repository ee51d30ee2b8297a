-- Posts that wait until they are due.
use Rattle.std.specs.Prelude.{◌≡◌, ℕ, ◌+◌, ◌<◌, Bool, false, not, ◌&&◌, nat_le, List, map, Option, None, Some, is_some}
use Rattle.std.specs.Prelude.{IsSome, unwrap_or}
use Rattle.std.specs.List.{All}
use Rattle.std.specs.List.Sorted.{IsStrictlySortedBy}
use Rattle.lab_num.specs.Key.{key_cmp}
use Rattle.dev_core.specs.declared.payload.Finish.{Finish}
use Rattle.dev_core.specs.declared.payload.Payload.{Payload}
use Rattle.dev_core.specs.declared.payload.Payload.TheVariants as payload
use Rattle.dev_core.specs.declared.post.Post.{Post}
use Rattle.dev_core.specs.Post.{post_key}
use Rattle.lab_state.specs.Hub.{Hub, delay_of}

-- how a test ended, which a finisher's post tells
abbrev pub finish_of : Payload → Option Finish
finish_of (payload.Byte byte) = None
finish_of (payload.Frame frame) = None
finish_of (payload.Finish finish) = Some finish

abbrev pub is_finish : Post → Bool
is_finish post = is_some (finish_of post.payload)

-- whether a post is for other devices: one of a device in a hub is, and a finisher's is for nobody
abbrev pub is_of_a_hub : List Hub → Post → Bool
is_of_a_hub hubs post = is_some (delay_of hubs post.from) && not (is_finish post)

-- the microsecond in which a post is due: that in which it was sent, and the delay of its device's hub later
abbrev pub due_at : List Hub → Post → ℕ
due_at hubs post = post.key.at.0 + unwrap_or (delay_of hubs post.from) 0

-- whether it is due by a microsecond
abbrev pub is_due : ℕ → List Hub → Post → Bool
is_due at hubs post = nat_le (due_at hubs post) at

-- a post that waits between two rounds: of a device in a hub, no finisher's, sent before this microsecond and due after
-- it
pub record IsPending (hubs : List Hub) (now : ℕ) (post : Post) : Type 0 where
  pub in_hub : IsSome (delay_of hubs post.from)
  pub no_finish : is_finish post ≡ false
  pub sent : post.key.at.0 < now
  pub due : now < due_at hubs post

-- such posts, in rising order of key
pub record ArePending (hubs : List Hub) (now : ℕ) (posts : List Post) : Type 0 where
  pub rising : IsStrictlySortedBy key_cmp (map post_key posts)
  pub each : All (IsPending hubs now) posts
