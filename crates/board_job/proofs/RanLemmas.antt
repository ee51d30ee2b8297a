-- A finished job of a board is the board after its stretch.
use Rattle.std.proofs.Common.{◌≡◌, ◌∙◌, ℕ, ◌+◌, ◌<◌, ◌≤◌, ◌^◌, List, [], ◌∷◌, ◌++◌, map, refl, ap, arith, All}
use Rattle.std.proofs.lemmas.List.Elements.{All-head, All-tail}
use Rattle.board.specs.View.{State}
use Rattle.dev_core.specs.declared.post.Post.{Post}
use Rattle.hub_mail.specs.Pass.{Pass}
use Rattle.floor_core.specs.Job as job
use Rattle.floor_core.specs.Job.{Job, made, after, aside}
use Rattle.floor_core.specs.Result.{finished}
use Rattle.time_handle.specs.Grant.{Grant, left}
use Rattle.board_job.specs.BoardJob.{BoardJob}
use Rattle.board_job.specs.Slots.{job_of, state_after, stepped, spent, unposted, unused}
use Rattle.board_job.specs.Ran.{ran}
use Rattle.board_job.proofs.SlotLemmas.{length-coming}

-- what the law `turns_are_stretches` says
abbrev pub Turns : Type 0
Turns = (b : State) (g : Grant) (pass : Pass) (n : ℕ) → n ≤ left g →
    b.view.numbers.posted + n < 2 ^ 64 → b.view.numbers.entered + n < 2 ^ 64 →
    after state_after (job_of b g pass) n ≡ job_of (stepped b g n) (spent g n) pass

-- the counts of a board have room for its grant
abbrev pub PostRoom : BoardJob → Type 0
PostRoom p = p.board.view.numbers.posted + left p.grant < 2 ^ 64

abbrev pub EntryRoom : BoardJob → Type 0
EntryRoom p = p.board.view.numbers.entered + left p.grant < 2 ^ 64

-- the job of a job, and all that it will have posted
abbrev pub job_in : BoardJob → Job ((State × Grant) × Pass)
job_in p = job_of p.board p.grant p.pass

abbrev pub sends : BoardJob → List Post
sends p = p.pass.posted ++ made (job_in p) (job.left (job_in p))

-- one board
one_ran :
    Turns → (p d : BoardJob) → PostRoom p → EntryRoom p →
    job_in d ≡ finished state_after (job_in p) → d.pass.posted ≡ sends p → d ≡ ran p
one_ran turns p d posts entries is sent =
    let n : ℕ = left p.grant in
    let all : job.left (job_in p) ≡ n = length-coming p.board.view p.grant n in
    let s : State = stepped p.board p.grant n in
    let g : Grant = spent p.grant n in
    let turned : after state_after (job_in p) (job.left (job_in p)) ≡ job_of s g p.pass =
    ap (λ (m : ℕ). after state_after (job_in p) m) all ∙ turns p.board p.grant p.pass n (omega arith) posts entries in
    let e : job_in d ≡ aside (job_of s g p.pass) = is ∙ ap aside turned in
    let states : ((unposted d.board, d.grant), unused d.pass) ≡ ((unposted s, g), unused p.pass) =
    ap (λ (j : Job ((State × Grant) × Pass)). j.state) e in
    let none : d.board.posts ≡ [] = ap (λ (j : Job ((State × Grant) × Pass)). j.unsent) e in
    let all_sent : d.pass.posted ≡ p.pass.posted ++ s.posts =
    sent ∙ ap (λ (l : List Post). p.pass.posted ++ l) (ap (λ (j : Job ((State × Grant) × Pass)). j.unsent) turned) in
    λ k. record {
      board = record { view = (states k).0.0.view; posts = none k; entries = (states k).0.0.entries };
      grant = (states k).0.1;
      pass = record (states k).1 { posted = all_sent k };
    }

-- and all of them
pub all_ran :
    Turns → (ps ds : List BoardJob) → All PostRoom ps → All EntryRoom ps →
    map job_in ds ≡ map (λ p. finished state_after (job_in p)) ps → map (λ d. d.pass.posted) ds ≡ map sends ps →
    ds ≡ map ran ps
all_ran turns [] [] posts entries are sent = refl
all_ran turns [] (d ∷ ds) posts entries are sent = absurd (cc)
all_ran turns (p ∷ ps) [] posts entries are sent = absurd (cc)
all_ran turns (p ∷ ps) (d ∷ ds) posts entries are sent =
    let here : job_in d ≡ finished state_after (job_in p) = cc in
    let rest : map job_in ds ≡ map (λ p. finished state_after (job_in p)) ps = cc in
    let own : d.pass.posted ≡ sends p = cc in
    let others : map (λ d. d.pass.posted) ds ≡ map sends ps = cc in
    let first = one_ran turns p d (All-head PostRoom p ps posts) (All-head EntryRoom p ps entries) here own in
    let more = all_ran turns ps ds (All-tail PostRoom p ps posts) (All-tail EntryRoom p ps entries) rest others in
    λ k. first k ∷ more k
