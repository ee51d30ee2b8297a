-- Boards that are lent to the workers of a round, each with its grant and its pass.
use Rattle.std.specs.Prelude.{ℕ, List, [], ◌∷◌, Some, None}
use Rattle.std.specs.Option.{option_map_or}
use Rattle.board.specs.View.{View, quiet}
use Rattle.hub_mail.specs.Pass.{MailId, fresh as new_pass}
use Rattle.time_handle.specs.Grant.{Grant, fresh}
use Rattle.board_job.specs.BoardJob.{BoardJob}
use Rattle.lab_state.specs.Board.{Board}

-- a board that has a plan, with its part of a grant of the time from one microsecond to another, and with its pass of a
-- mail
abbrev pub board_job_of : MailId → ℕ → ℕ → View → BoardJob
board_job_of mail from to v = record {
  board = quiet v;
  grant = fresh from to v.numbers.speed;
  pass = new_pass mail v.numbers.number;
}

-- what is lent of a board: nothing of one that has no plan
abbrev pub lent : MailId → ℕ → ℕ → Board → List BoardJob
lent mail from to board = option_map_or (λ v. board_job_of mail from to v ∷ []) board.view []

-- what stays of a board that is lent
abbrev pub away : Board → Board
away board = record board { view = None }

-- the board of a job under its name again
abbrev pub put_back : Board → BoardJob → Board
put_back board p = record board { view = Some p.board.view }

-- a grant of which nothing is used
abbrev pub unused : Grant → Grant
unused g = fresh g.from g.to g.speed

-- the first items of a list, each changed by the one in its place in another
abbrev pub each_by : {A P : Type 0} → (A → P → A) → List A → List P → List A
each_by f [] ps = []
each_by f (x ∷ xs) [] = x ∷ xs
each_by f (x ∷ xs) (p ∷ ps) = f x p ∷ each_by f xs ps

-- the grant of a job in place of another
abbrev pub its_grant : Grant → BoardJob → Grant
its_grant g p = p.grant
