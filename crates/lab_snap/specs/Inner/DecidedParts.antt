-- Whether a laboratory, as a snapshot holds it, can go on.
use Rattle.std.proofs.Common.{◌≡◌, ℕ, List, ap}
use Rattle.std.specs.Prelude.{unwrap_or}
use Rattle.std.specs.Str.{bytes_eq}
use Rattle.board.specs.Sent.{is_of_kind}
use Rattle.dev_core.specs.declared.post.Post.{Post}
use Rattle.lab_num.specs.declared.key.Member.{Member}
use Rattle.lab_num.specs.declared.number.BoardNo.{BoardNo}
use Rattle.lab_num.specs.Key.{same_member}
use Rattle.lab_snap.specs.declared.hub.SavedHub.{SavedHub}
use Rattle.lab_snap.specs.declared.lab.SavedBoard.{SavedBoard}
use Rattle.lab_snap.specs.declared.lab.SavedLab.{SavedLab}
use Rattle.lab_snap.specs.Inner.Decided.{Decided, at_most, below, both, distinct, each, five, four, has_value, in_some}
use Rattle.lab_snap.specs.Inner.Decided.{same_list, same_number, tested, three, told_by}
use Rattle.lab_snap.specs.Inner.DecidedState.{same_kind, state_decided}
use Rattle.lab_snap.specs.Inner.Parts.{AreBoards, AreHubs, AreOpenIn, AreTimes, AreValid, AreWaiting}
use Rattle.lab_snap.specs.Inner.Parts.{IsBoardAt, IsHubIn, IsMachineAt, IsWaitingAt, delay_in, is_open}
use Rattle.lab_snap.specs.Inner.Parts.{kind_in, machine_at, names_of}
use Rattle.lab_snap.specs.Inner.ValidPlan.{is_valid_plan, valid_plan_decides}
use Rattle.lab_snap.specs.Machine.{IsMachine, Machine}

times_decided : (time quantum : ℕ) → Decided (AreTimes time quantum)
times_decided time quantum =
    told_by (three (at_most _ _) (at_most _ _) (at_most _ _))
    (λ (a, b, c). record { last = a; least_quantum = b; most_quantum = c })
    (λ h. (h.last, h.least_quantum, h.most_quantum))

-- ---- boards

sound_decided : (m : Machine) → Decided (IsMachine m)
sound_decided m =
    told_by
    (both (record { answer = is_valid_plan m.plan; decides = valid_plan_decides m.plan }) (same_list same_number _ _))
    (λ (a, b). record { plan = a; memories = b }) (λ h. (h.plan, h.memories))

machine_decided : (time : ℕ) (m : Machine) → Decided (IsMachineAt time m)
machine_decided time m =
    told_by (four (sound_decided m) (state_decided m.plan m.state) (tested _) (tested _))
    (λ (a, b, c, d). record { sound = a; state = b; posted = c; entries = d })
    (λ h. (h.sound, h.state, h.posted, h.entries))

board_decided : (time : ℕ) (board : SavedBoard) → Decided (IsBoardAt time board)
board_decided time board =
    told_by (both (tested _) (in_some (machine_decided time) board.machine))
    (λ (a, b). record { name = a; machine = b }) (λ h. (h.name, h.machine))

boards_decided : (time : ℕ) (boards : List SavedBoard) → Decided (AreBoards time boards)
boards_decided time boards =
    told_by (both (at_most _ _) (each (board_decided time) boards)) (λ (a, b). record { few = a; each = b })
    (λ h. (h.few, h.each))

-- ---- hubs

hub_decided : (boards : List SavedBoard) (hub : SavedHub) → Decided (IsHubIn boards hub)
hub_decided boards hub =
    told_by
    (four (tested _) (tested _) (at_most _ _)
    (each (λ m. has_value same_kind (kind_in boards m) hub.kind) hub.members))
    (λ (a, b, c, d). record { own = record { kind = a; name = b; delay = c }; members = d })
    (λ h. (h.own.kind, h.own.name, h.own.delay, h.members))

hubs_decided : (boards : List SavedBoard) (hubs : List SavedHub) → Decided (AreHubs boards hubs)
hubs_decided boards hubs =
    told_by (both (below _ _) (each (hub_decided boards) hubs)) (λ (a, b). record { few = a; each = b })
    (λ h. (h.few, h.each))

-- ---- posts and lines

abbrev board_no : ℕ → BoardNo
board_no n = record { 0 = n }

same_board : (a b : BoardNo) → Decided (a ≡ b)
same_board a b = told_by (same_number a.0 b.0) (λ e. ap board_no e) (λ e. ap (λ (b : BoardNo). b.0) e)

waiting_decided : (lab : SavedLab) (delay : ℕ) (post : Post) → Decided (IsWaitingAt lab delay post)
waiting_decided lab delay post =
    told_by
    (five (below _ _) (below _ _) (same_board _ _)
    (in_some (λ m. below _ _) (machine_at lab.boards post.key.board.0))
    (in_some (λ kind. tested (is_of_kind kind post.payload)) (kind_in lab.boards post.from)))
    (λ (a, b, c, d, e). record { sent = a; due = b; own = c; number = d; payload = e })
    (λ h. (h.sent, h.due, h.own, h.number, h.payload))

posts_decided : (lab : SavedLab) (delay : Member → ℕ) → Decided (AreWaiting lab delay)
posts_decided lab delay =
    told_by (both (tested _) (each (λ post. waiting_decided lab (delay post.from) post) lab.pending))
    (λ (a, b). record { rising = a; each = b }) (λ h. (h.rising, h.each))

lines_decided : (lab : SavedLab) → Decided (AreOpenIn lab)
lines_decided lab =
    told_by (both (tested _) (each (λ line. tested (is_open lab line)) lab.lines))
    (λ (a, b). record { unended = a; each = b }) (λ h. (h.unended, h.each))

-- ---- all of it

pub valid_decided : (lab : SavedLab) → Decided (AreValid lab)
valid_decided lab =
    told_by
    (three (both (times_decided _ _) (distinct bytes_eq (names_of lab)))
    (three (boards_decided lab.time.0 lab.boards) (hubs_decided lab.boards lab.hubs) (distinct same_member _))
    (both (posts_decided lab (λ m. unwrap_or (delay_in lab.hubs m) 0)) (lines_decided lab)))
    (λ ((a, b), (c, d, e), (f, g)). record {
      times = a;
      names = b;
      boards = c;
      hubs = d;
      once = e;
      posts = f;
      lines = g;
    })
    (λ h. ((h.times, h.names), (h.boards, h.hubs, h.once), (h.posts, h.lines)))
