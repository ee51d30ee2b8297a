-- Posts that wait have been sent by their boards: what keeps this.
use Rattle.std.proofs.Common.{◌≡◌, ℕ, ◌≤◌, List, Option, Some, slice_get, arith}
use Rattle.std.specs.List.{All}
use Rattle.std.proofs.lemmas.List.Elements.{All-weaker}
use Rattle.dev_core.specs.declared.kind.Kind.{Kind}
use Rattle.dev_core.specs.declared.post.Post.{Post}
use Rattle.board.specs.Numbers.{Numbers}
use Rattle.lab_state.specs.Inner.Standing.{Outline, kind_of_outline, IsFromBoard}

-- what boards have of devices they go on to have
abbrev pub KeepKinds : List Outline → List Outline → Type 0
KeepKinds before after =
    (dev : ℕ) (kind : Kind) (b : ℕ) → kind_of_outline dev (slice_get before b) ≡ Some kind →
    kind_of_outline dev (slice_get after b) ≡ Some kind

-- a board that has made no fewer posts
pub record HasRisen (before : Numbers) (found : Option (Option Numbers)) : Type 0 where
  pub after : Numbers
  pub is : found ≡ Some (Some after)
  pub posted : before.posted ≤ after.posted

-- boards with their numbers go on to be there
abbrev pub KeepCounts : List (Option Numbers) → List (Option Numbers) → Type 0
KeepCounts before after =
    (b : ℕ) (n : Numbers) → slice_get before b ≡ Some (Some n) → HasRisen n (slice_get after b)

pub from_later :
    {boards others : List Outline} {numbers later : List (Option Numbers)} (posts : List Post) →
    KeepKinds boards others → KeepCounts numbers later → All (IsFromBoard boards numbers) posts →
    All (IsFromBoard others later) posts
from_later {boards = boards} {others = others} {numbers = numbers} {later = later} posts kinds counts all =
    All-weaker (IsFromBoard boards numbers) (IsFromBoard others later)
    (λ post is.
    let risen = counts post.key.board.0 is.sender is.found in
    record {
      own = is.own;
      kind = is.kind;
      device = kinds post.from.dev is.kind post.from.board.0 is.device;
      payload = is.payload;
      sender = risen.after;
      found = risen.is;
      number = omega (arith, is.number, risen.posted);
    })
    posts all
