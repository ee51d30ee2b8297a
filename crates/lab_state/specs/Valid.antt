-- The laboratories that there can be between two rounds, and the lines of UARTs that can stand open in them.
use Rattle.std.specs.Prelude.{◌≡◌, ℕ, ◌*◌, ◌^◌, ◌<◌, ◌≤◌, nat_lt, Bool, false, ◌&&◌, List, length, map, Some, IsTrue}
use Rattle.std.specs.List.{All}
use Rattle.std.specs.List.Sorted.{IsStrictlySortedBy}
use Rattle.std.specs.Option.{ForSome, option_map_or}
use Rattle.board.specs.Sent.{is_of_kind}
use Rattle.board.specs.Space.{device_at}
use Rattle.board.specs.Valid.{IsBoard}
use Rattle.board.specs.View.{View}
use Rattle.dev_core.specs.declared.kind.Kind.TheVariants.{Uart}
use Rattle.dev_core.specs.declared.post.Post.{Post}
use Rattle.dev_core.specs.Device.{kind_of}
use Rattle.dev_core.specs.Post.{post_key}
use Rattle.lab_num.specs.declared.key.Member.{Member}
use Rattle.lab_num.specs.declared.number.Micros.{Micros}
use Rattle.lab_num.specs.Key.{key_cmp}
use Rattle.lab_num.specs.Name.{is_name}
use Rattle.lab_num.specs.Route.{StandOnce}
use Rattle.dev_core.specs.Kind.{is_kind, row_of}
use Rattle.log_text.specs.declared.line.OpenLine.{OpenLine}
use Rattle.log_text.specs.Line.{are_unended}
use Rattle.lab_state.specs.Board.{Board}
use Rattle.lab_state.specs.Hub.{Hub, members_of}
use Rattle.lab_state.specs.Lab.{Lab}
use Rattle.lab_state.specs.Names.{AreNames}
use Rattle.lab_state.specs.One.{kind_at, view_of}
use Rattle.lab_state.specs.Pending.{due_at}

-- a board that stands under this number at this time: it has made at most 1,000 posts and 1,000 entries a microsecond
pub record IsStanding (now b : ℕ) (v : View) : Type 0 where
  pub board : IsBoard v
  pub number : v.numbers.number ≡ b
  pub posted : v.numbers.posted ≤ 1000 * now
  pub entries : v.numbers.entered ≤ 1000 * now

-- a hub of a kind of devices that joins hubs, whose members are devices of this kind
pub record IsHub (boards : List Board) (hub : Hub) : Type 0 where
  pub name : IsTrue (is_name hub.name)
  pub kind : IsTrue (row_of hub.kind).joins_hubs
  pub delay : hub.delay ≤ 1000000
  pub members : All (λ m. kind_at boards m ≡ Some hub.kind) hub.members

-- a post that waits: it was sent before now and is due after it, by a device of its board that sends such payloads; and
-- its number is one of those that its board has given
pub record IsWaiting (lab : Lab) (post : Post) : Type 0 where
  pub sent : post.key.at.0 < lab.now
  pub due : lab.now < due_at lab.hubs post
  pub own : post.from.board ≡ post.key.board
  pub number : ForSome (view_of lab post.key.board.0) (λ v. post.key.number.0 < v.numbers.posted)
  pub payload : ForSome (kind_at lab.boards post.from) (λ kind. IsTrue (is_of_kind kind post.payload))

pub record IsLab (lab : Lab) : Type 0 where
  -- names differ and have their form
  pub board_names : All (λ board. IsTrue (is_name board.name)) lab.boards
  pub names : AreNames (map (λ board. board.name) lab.boards) (map (λ hub. hub.name) lab.hubs)
  pub few_boards : length lab.boards ≤ 16
  pub few_hubs : length lab.hubs < 2 ^ 32
  -- boards with a plan, and hubs, of which at most one has a device
  pub boards : (b : ℕ) → (v : View) → view_of lab b ≡ Some v → IsStanding lab.now b v
  pub hubs : All (IsHub lab.boards) lab.hubs
  pub once : StandOnce (members_of lab.hubs)
  -- time and quantum
  pub last : lab.now ≤ 10000000000
  pub least_quantum : 1 ≤ lab.quantum
  pub most_quantum : lab.quantum ≤ 1000000
  -- the posts that wait, in rising order of key
  pub rising : IsStrictlySortedBy key_cmp (map post_key lab.pending)
  pub pending : All (IsWaiting lab) lab.pending

-- whether a device of a board is a UART which is shown
abbrev pub is_shown_uart : View → ℕ → Bool
is_shown_uart v dev = (device_at v.space dev).shown && is_kind Uart (kind_of (device_at v.space dev).state)

-- whether a device of the laboratory is such a one, and a time is before this one
abbrev pub is_shown_before : Lab → ℕ → Member → Micros → Bool
is_shown_before lab now m at =
    option_map_or (λ v. is_shown_uart v m.dev) (view_of lab m.board.0) false && nat_lt at.0 now

-- the open line of a shown UART, which has sent its last byte before now
abbrev pub IsOpen : Lab → OpenLine → Type 0
IsOpen lab line = IsTrue (is_shown_before lab lab.now line.member line.at)

-- lines that stand open together, one of a UART
pub record AreOpen (lab : Lab) (lines : List OpenLine) : Type 0 where
  pub unended : IsTrue (are_unended lines)
  pub each : All (IsOpen lab) lines

-- a laboratory with its open lines
pub record IsValid (state : Lab) (open_lines : List OpenLine) : Type 0 where
  pub lab : IsLab state
  pub lines : AreOpen state open_lines
