-- What a board sends and tells of, and when.
use Rattle.std.specs.Prelude.{◌≡◌, ℕ, ◌+◌, ◌<◌, Bool, true, length, IsTrue}
use Rattle.dev_core.specs.declared.kind.Kind.{Kind}
use Rattle.dev_core.specs.declared.kind.Kind.TheVariants as kind
use Rattle.dev_core.specs.declared.payload.Payload.{Payload}
use Rattle.dev_core.specs.declared.post.Entry.{Entry}
use Rattle.dev_core.specs.declared.post.Post.{Post}
use Rattle.dev_core.specs.declared.post.What.{What}
use Rattle.dev_core.specs.declared.post.What.TheVariants as what
use Rattle.dev_core.specs.Device.{kind_of}
use Rattle.dev_core.specs.Kind.{row_of}
use Rattle.lab_num.specs.declared.key.Key.{Key}
use Rattle.lab_num.specs.Paid.{slot_at}
use Rattle.board_space.specs.Space.{device_at}
use Rattle.board.specs.View.{View}

-- a key of one of the slots `a` to `a + n - 1` of the grant that begins at `from`, at this speed
pub record IsMadeIn (from a n speed : ℕ) (key : Key) : Type 0 where
  pub slot : ℕ
  pub within : slot < n
  pub at : key.at.0 ≡ slot_at from speed (a + slot)

-- a post of one of these slots
abbrev pub IsSentIn : ℕ → ℕ → ℕ → ℕ → Post → Type 0
IsSentIn from a n speed post = IsMadeIn from a n speed post.key

-- and a log entry
abbrev pub IsEnteredIn : ℕ → ℕ → ℕ → ℕ → Entry → Type 0
IsEnteredIn from a n speed entry = IsMadeIn from a n speed entry.key

-- devices of the kind send such a payload
abbrev pub is_of_kind : Kind → Payload → Bool
is_of_kind kind payload = (row_of kind).sends payload

-- a post of a device of the board
pub record IsSentBy (v : View) (post : Post) : Type 0 where
  pub board : post.from.board.0 ≡ v.numbers.number
  pub device : post.from.dev < length v.space.devices
  pub payload : IsTrue (is_of_kind (kind_of (device_at v.space post.from.dev).state) post.payload)

-- a device of this kind of the board, which is shown
pub record IsShown (v : View) (k : Kind) (dev : ℕ) : Type 0 where
  pub device : dev < length v.space.devices
  pub kind : kind_of (device_at v.space dev).state ≡ k
  pub shown : (device_at v.space dev).shown ≡ true

-- what a board tells of the bytes and the frames that a device sends it tells of shown UARTs and CAN controllers
abbrev pub IsToldBy : View → What → Type 0
IsToldBy v (what.Byte dev value) = IsShown v kind.Uart dev
IsToldBy v (what.Sent dev frame) = IsShown v kind.Can dev
IsToldBy v (what.Read width at) = Unit {0}
IsToldBy v (what.Write width at value) = Unit {0}
