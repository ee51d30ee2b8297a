-- The parts of a laboratory, as a snapshot holds it, that can go on.
use Rattle.std.specs.Prelude.{◌≡◌, ℕ, ◌+◌, ◌*◌, ◌^◌, ◌<◌, ◌≤◌, nat_le, nat_lt, Bool, false, ◌&&◌, IsTrue}
use Rattle.std.specs.Prelude.{List, ◌++◌, length, map, find, slice_get, Option, None, Some, option_and_then, unwrap_or}
use Rattle.std.specs.Prelude.{All}
use Rattle.std.specs.List.{IsDistinct}
use Rattle.std.specs.Map.{lookup}
use Rattle.std.specs.Option.{ForSome, option_map, option_map_or}
use Rattle.std.specs.Str.{bytes_eq}
use Rattle.board.specs.Sent.{is_of_kind}
use Rattle.board.specs.Valid.{IsStateFor}
use Rattle.dev_core.specs.declared.kind.Kind.{Kind}
use Rattle.dev_core.specs.declared.kind.Kind.TheVariants as kind
use Rattle.dev_core.specs.declared.post.Post.{Post}
use Rattle.dev_core.specs.declared.state.DevState.{DevState}
use Rattle.dev_core.specs.Device.{kind_of}
use Rattle.lab_num.specs.declared.key.Member.{Member}
use Rattle.lab_num.specs.Key.{same_member}
use Rattle.lab_num.specs.Name.{is_name}
use Rattle.lab_num.specs.Route.{StandOnce, has_member}
use Rattle.dev_core.specs.Kind.{is_kind}
use Rattle.log_text.specs.declared.line.OpenLine.{OpenLine}
use Rattle.log_text.specs.Line.{are_unended}
use Rattle.lab_snap.specs.declared.hub.SavedHub.{SavedHub}
use Rattle.lab_snap.specs.declared.lab.SavedBoard.{SavedBoard}
use Rattle.lab_snap.specs.declared.lab.SavedLab.{SavedLab}
use Rattle.lab_snap.specs.Hub.{IsHub}
use Rattle.lab_snap.specs.Machine.{Machine, IsMachine}
use Rattle.lab_snap.specs.Rising.{rise}

-- ---- time and names

pub record AreTimes (time quantum : ℕ) : Type 0 where
  pub last : time ≤ 10000000000
  pub least_quantum : 1 ≤ quantum
  pub most_quantum : quantum ≤ 1000000

-- the names of the boards, and then those of the hubs
abbrev pub names_of : SavedLab → List (List ℕ)
names_of lab = map (λ board. board.name) lab.boards ++ map (λ hub. hub.name) lab.hubs

-- ---- boards

-- whether a board can have made so many posts, or so many entries, by a time
abbrev pub is_count : ℕ → ℕ → Bool
is_count time count = nat_le count (1000 * time)

-- a machine that can stand in its state at a time
pub record IsMachineAt (time : ℕ) (m : Machine) : Type 0 where
  pub sound : IsMachine m
  pub state : IsStateFor m.plan m.state
  pub posted : IsTrue (is_count time m.state.posted)
  pub entries : IsTrue (is_count time m.state.entries)

-- a board with a name, and with such a machine if it has one
pub record IsBoardAt (time : ℕ) (board : SavedBoard) : Type 0 where
  pub name : IsTrue (is_name board.name)
  pub machine : ForSome board.machine (IsMachineAt time)

pub record AreBoards (time : ℕ) (boards : List SavedBoard) : Type 0 where
  pub few : length boards ≤ 16
  pub each : All (IsBoardAt time) boards

-- each board that has a plan is in a state that a board of the plan can have
abbrev pub FitTheirPlans : List SavedBoard → Type 0
FitTheirPlans boards = All (λ board. ForSome board.machine (λ m. IsStateFor m.plan m.state)) boards

-- the machine under the number of a board
abbrev pub machine_at : List SavedBoard → ℕ → Option Machine
machine_at boards b = option_and_then (λ board. board.machine) (slice_get boards b)

-- the kind of a device, if its board has a plan and the device is one of it
abbrev pub kind_in : List SavedBoard → Member → Option Kind
kind_in boards m = option_and_then (λ machine. slice_get machine.plan.kinds m.dev) (machine_at boards m.board.0)

-- ---- hubs

-- a device of these boards that can be in a hub of a kind
abbrev pub IsMemberOf : List SavedBoard → Kind → Member → Type 0
IsMemberOf boards kind m = kind_in boards m ≡ Some kind

-- a hub that can stand in a laboratory, of such devices
pub record IsHubIn (boards : List SavedBoard) (hub : SavedHub) : Type 0 where
  pub own : IsHub hub
  pub members : All (IsMemberOf boards hub.kind) hub.members

pub record AreHubs (boards : List SavedBoard) (hubs : List SavedHub) : Type 0 where
  pub few : length hubs < 2 ^ 32
  pub each : All (IsHubIn boards) hubs

-- the members of the hubs
abbrev pub members_in : List SavedHub → List (List Member)
members_in hubs = map (λ hub. hub.members) hubs

-- the delay of the hub of a device, if it is in one
abbrev pub delay_in : List SavedHub → Member → Option ℕ
delay_in hubs m = option_map (λ hub. hub.delay) (find (λ hub. has_member hub.members m) hubs)

-- the members of a hub, each with its delay
abbrev pub places : SavedHub → List (Member × ℕ)
places hub = map (λ m. (m, hub.delay)) hub.members

-- what a table of delays says of a device
abbrev pub delay_by : List (Member × ℕ) → Member → ℕ
delay_by table m = unwrap_or (lookup (same_member m) table) 0

-- a table of the delays of these hubs, if no device is in two of them or twice in one
abbrev pub AreDelays : List SavedHub → Option (List (Member × ℕ)) → Type 0
AreDelays hubs None = StandOnce (members_in hubs) → ⊥
AreDelays hubs (Some table) =
    StandOnce (members_in hubs) × ((m : Member) → delay_by table m ≡ unwrap_or (delay_in hubs m) 0)

-- ---- posts

-- the board of the post's key has given the key's number
abbrev pub HasNumber : List SavedBoard → Post → Type 0
HasNumber boards post = ForSome (machine_at boards post.key.board.0) (λ m. post.key.number.0 < m.state.posted)

-- the device of the post sends such payloads
abbrev pub HasPayload : List SavedBoard → Post → Type 0
HasPayload boards post = ForSome (kind_in boards post.from) (λ kind. IsTrue (is_of_kind kind post.payload))

-- a post that waits where its device's hub has this delay
pub record IsWaitingAt (lab : SavedLab) (delay : ℕ) (post : Post) : Type 0 where
  pub sent : post.key.at.0 < lab.time.0
  pub due : lab.time.0 < post.key.at.0 + delay
  pub own : post.from.board ≡ post.key.board
  pub number : HasNumber lab.boards post
  pub payload : HasPayload lab.boards post

-- posts in rising order that wait, where the hubs' delays are these
pub record AreWaiting (lab : SavedLab) (delay : Member → ℕ) : Type 0 where
  pub rising : IsTrue (rise lab.pending)
  pub each : All (λ post. IsWaitingAt lab (delay post.from) post) lab.pending

-- ---- open lines

abbrev pub is_uart : DevState → Bool
is_uart state = is_kind kind.Uart (kind_of state)

-- whether a device of a machine is a UART which is shown
abbrev pub shown_uart : Option DevState → Option Bool → Bool
shown_uart (Some state) (Some shown) = shown && is_uart state
shown_uart (Some state) None = false
shown_uart None shown = false

abbrev pub is_shown_uart : Machine → ℕ → Bool
is_shown_uart m dev = shown_uart (slice_get m.state.devices dev) (slice_get m.state.shown dev)

-- whether a line can stand open in a laboratory, alone
abbrev pub is_open : SavedLab → OpenLine → Bool
is_open lab line =
    option_map_or (λ m. is_shown_uart m line.member.dev) (machine_at lab.boards line.member.board.0) false
    && nat_lt line.at.0 lab.time.0

-- lines that can stand open in it together
pub record AreOpenIn (lab : SavedLab) : Type 0 where
  pub unended : IsTrue (are_unended lab.lines)
  pub each : All (λ line. IsTrue (is_open lab line)) lab.lines

-- ---- all of it

pub record AreValid (lab : SavedLab) : Type 0 where
  pub times : AreTimes lab.time.0 lab.quantum
  pub names : IsDistinct bytes_eq (names_of lab)
  pub boards : AreBoards lab.time.0 lab.boards
  pub hubs : AreHubs lab.boards lab.hubs
  pub once : StandOnce (members_in lab.hubs)
  pub posts : AreWaiting lab (λ m. unwrap_or (delay_in lab.hubs m) 0)
  pub lines : AreOpenIn lab
