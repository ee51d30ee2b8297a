-- Which events are legal on a floor, and what each does.
use Rattle.std.specs.Prelude.{◌≡◌, ◌≢◌, ℕ, ◌+◌, ◌≤◌, true, false, List, [], ◌++◌, drop, All, IsSomeAnd}
use Rattle.std.specs.Prelude.{Option, Some, None, slice_get, option_map, option_and_then, option_to_list}
use Rattle.lab_num.specs.Change.{change_at}
use Rattle.lab_num.specs.declared.number.BoardNo.{BoardNo}
use Rattle.dev_core.specs.declared.post.Post as post
use Rattle.floor_core.specs.declared.event.Event.{Event}
use Rattle.floor_core.specs.declared.event.Event.TheVariants.{Claim, Post, Report, Close}
use Rattle.floor_core.specs.declared.event.Mailed.{Mailed}
use Rattle.floor_core.specs.Floor.{Board, Floor}
use Rattle.floor_core.specs.Job.{left, after}

-- what an event asks of its board
abbrev pub MayClaim : {S : Type 0} → ℕ → Board S → Type 0
MayClaim slots b = (b.worker ≡ None) × (1 ≤ slots) × (slots ≤ left b.job)

abbrev pub MayPost : {S : Type 0} → ℕ → Board S → Type 0
MayPost worker b = (b.worker ≡ Some worker) × (b.job.unsent ≢ [])

abbrev pub MayReport : {S : Type 0} → ℕ → Board S → Type 0
MayReport worker b = (b.worker ≡ Some worker) × (b.job.unsent ≡ [])

-- at home, with nothing left and no unsent post
abbrev pub IsDone : {S : Type 0} → Board S → Type 0
IsDone b = (b.worker ≡ None) × (left b.job ≡ 0) × (b.job.unsent ≡ [])

-- no event is legal on an ended floor
abbrev pub IsLegal : {S : Type 0} → Floor S → Event → Type 0
IsLegal f (Claim worker board slots) = (f.is_ended ≡ false) × IsSomeAnd (slice_get f.boards board.0) (MayClaim slots)
IsLegal f (Post worker board) = (f.is_ended ≡ false) × IsSomeAnd (slice_get f.boards board.0) (MayPost worker)
IsLegal f (Report worker board) = (f.is_ended ≡ false) × IsSomeAnd (slice_get f.boards board.0) (MayReport worker)
IsLegal f Close = (f.is_ended ≡ false) × All IsDone f.boards

-- a board that a worker takes for a turn of so many slots
abbrev pub claimed : {S : Type 0} → (S → List (Option post.Post) → ℕ → S) → ℕ → ℕ → Board S → Board S
claimed state_after worker slots b = record {
  job = after state_after b.job slots;
  worker = Some worker;
  used = b.used + slots;
}

-- a board whose oldest unsent post is sent
abbrev pub relieved : {S : Type 0} → Board S → Board S
relieved b = record b { job = record (b.job) { unsent = drop 1 b.job.unsent } }

-- a board that is brought home
abbrev pub at_home : {S : Type 0} → Board S → Board S
at_home b = record b { worker = None }

-- the oldest unsent post of a board, as it goes into the mail
abbrev pub oldest : {S : Type 0} → Floor S → BoardNo → List Mailed
oldest f board =
    option_to_list
    (option_map (λ p. record { by = board; post = p })
    (option_and_then (λ b. slice_get b.job.unsent 0) (slice_get f.boards board.0)))

-- the floor after a legal event
abbrev pub happened : {S : Type 0} → (S → List (Option post.Post) → ℕ → S) → Floor S → Event → Floor S
happened state_after f (Claim worker board slots) =
    record f { boards = change_at f.boards board.0 (claimed state_after worker slots) }
happened state_after f (Post worker board) =
    record f { boards = change_at f.boards board.0 relieved; mail = f.mail ++ oldest f board }
happened state_after f (Report worker board) = record f { boards = change_at f.boards board.0 at_home }
happened state_after f Close = record f { is_ended = true }
