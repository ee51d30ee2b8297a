-- One turn of a board that has a grant and a pass.
use Rattle.std.proofs.Common.{◌≡◌, ◌∙◌, ℕ, ◌+◌, ◌<◌, ◌≤◌, ◌^◌, sym, ap, arith, append-nil}
use Rattle.std.specs.Prelude.{min}
use Rattle.board.specs.Idle.{passed}
use Rattle.board.specs.View.{View, State, after, quiet}
use Rattle.board.specs.Stretch.{stretch}
use Rattle.hub_mail.specs.Pass.{Pass}
use Rattle.floor_core.specs.Job as job
use Rattle.probe_jobs.specs.Course.{AreIdle}
use Rattle.time_handle.specs.Grant.{Grant, left}
use Rattle.board_job.specs.Inner.Posting.{MayPost}
use Rattle.board_job.specs.Inner.Room.{IsPaid}
use Rattle.board_job.specs.Slots.{idled, spent, stepped, job_of, state_after}
use Rattle.board_job.proofs.PostLemmas.{turn_keeps}
use Rattle.board_job.proofs.SlotLemmas.{AreAllNumbered, length-coming}

-- what turns are to the board
abbrev pub AreStretches : Type 0
AreStretches = (b : State) (g : Grant) (pass : Pass) (n : ℕ) → n ≤ left g →
    b.view.numbers.posted + n < 2 ^ 64 → b.view.numbers.entered + n < 2 ^ 64 →
    job.after state_after (job_of b g pass) n ≡ job_of (stepped b g n) (spent g n) pass

quiet_behind : (s : State) (v : View) → record s { view = v } ≡ after s (quiet v)
quiet_behind s v = sym (simp append-nil)

-- the job of a board after a turn
turned :
    AreStretches → (b b' : State) (g g' : Grant) (pass : Pass) (from first n : ℕ) → n ≤ left g →
    IsPaid b.view.numbers g → from ≡ g.from → first ≡ g.used → b' ≡ after b (stretch b.view from first n) →
    g' ≡ spent g n → job_of b' g' pass ≡ job.after state_after (job_of b g pass) n
turned stretches b b' g g' pass from first n few paid from_is first_is board_is grant_is =
    let board : b' ≡ stepped b g n = board_is ∙ (λ i. after b (stretch b.view (from_is i) (first_is i) n)) in
    (λ i. job_of (board i) (grant_is i) pass) ∙
    sym (stretches b g pass n few (omega (arith, few, paid.posts)) (omega (arith, few, paid.entries)))

-- as many slots as the limit allows of those that are left
asked :
    (b : State) (g : Grant) (pass : Pass) (limit n rest : ℕ) → rest ≡ left g → n ≡ min limit rest →
    n ≡ min limit (job.left (job_of b g pass))
asked b g pass limit n rest rest_is n_is =
    n_is ∙ ap (λ (r : ℕ). min limit r) (rest_is ∙ sym (length-coming b.view g (left g)))

enough : (limit n rest m : ℕ) → n ≡ min limit rest → m ≤ n → m ≤ rest
enough limit n rest m n_is few = omega (arith, n_is, few)

-- a turn that has taken all of them, and one that has taken fewer
pub used_all :
    AreStretches → (b b' : State) (g g' : Grant) (pass : Pass) (limit n rest from first m : ℕ) →
    IsPaid b.view.numbers g → rest ≡ left g → n ≡ min limit rest → from ≡ g.from → first ≡ g.used →
    (m ≡ n) × (b' ≡ after b (stretch b.view from first n)) → g' ≡ spent g m →
    (m ≡ min limit (job.left (job_of b g pass))) ×
    (job_of b' g' pass ≡ job.after state_after (job_of b g pass) (min limit (job.left (job_of b g pass))))
used_all stretches b b' g g' pass limit n rest from first m paid rest_is n_is from_is first_is is grant_is =
    let all = asked b g pass limit n rest rest_is n_is in
    let few = enough limit n rest n n_is (omega arith) in
    let grant : g' ≡ spent g n = grant_is ∙ ap (λ (k : ℕ). spent g k) is.0 in (
      is.0 ∙ all,
      turned stretches b b' g g' pass from first n (omega (arith, few, rest_is)) paid from_is first_is is.1 grant ∙
          ap (λ (k : ℕ). job.after state_after (job_of b g pass) k) all,
    )

pub used_some :
    AreStretches → (b b' : State) (g g' : Grant) (pass : Pass) (limit n rest from first m : ℕ) →
    IsPaid b.view.numbers g → rest ≡ left g → n ≡ min limit rest → from ≡ g.from → first ≡ g.used →
    (m < n) × (b' ≡ after b (stretch b.view from first m)) → g' ≡ spent g m →
    (m < min limit (job.left (job_of b g pass))) × (job_of b' g' pass ≡ job.after state_after (job_of b g pass) m)
used_some stretches b b' g g' pass limit n rest from first m paid rest_is n_is from_is first_is is grant_is =
    let all = asked b g pass limit n rest rest_is n_is in
    let few = enough limit n rest m n_is (omega (arith, is.0)) in (
      omega (arith, is.0, all),
      turned stretches b b' g g' pass from first m (omega (arith, few, rest_is)) paid from_is first_is is.1 grant_is,
    )

-- slots that are passed over, of those that a turn would take
pub passed_over :
    AreStretches → (b b' : State) (g g' : Grant) (pass : Pass) (limit n rest from first m : ℕ) →
    IsPaid b.view.numbers g → rest ≡ left g → n ≡ min limit rest → from ≡ g.from → first ≡ g.used → m ≤ n →
    b' ≡ after b (stretch b.view from first m) → g' ≡ spent g m →
    (m ≤ min limit (job.left (job_of b g pass))) × (job_of b' g' pass ≡ job.after state_after (job_of b g pass) m)
passed_over stretches b b' g g' pass limit n rest from first m paid rest_is n_is from_is first_is most is grant_is =
    let all = asked b g pass limit n rest rest_is n_is in
    let few = enough limit n rest m n_is most in (
      omega (arith, most, all),
      turned stretches b b' g g' pass from first m (omega (arith, few, rest_is)) paid from_is first_is is grant_is,
    )

-- idle slots of a board are idle slots of its job
pub idle_slots :
    AreStretches → (b : State) (g : Grant) (pass : Pass) (n : ℕ) → n ≤ left g → IsPaid b.view.numbers g →
    stretch b.view g.from g.used n ≡ quiet (passed b.view n) → AreIdle state_after idled (job_of b g pass) n
idle_slots stretches b g pass n few paid idle =
    let moved = stretches b g pass n few (omega (arith, few, paid.posts)) (omega (arith, few, paid.entries)) in
    let run : stepped b g n ≡ record b { view = passed b.view n } =
    ap (after b) idle ∙ sym (quiet_behind b (passed b.view n)) in
    let is : job.after state_after (job_of b g pass) n ≡ job_of (record b { view = passed b.view n }) (spent g n) pass =
    moved ∙ ap (λ (s : State). job_of s (spent g n) pass) run in record {
      state_is = ap (λ (j : job.Job ((State × Grant) × Pass)). j.state) is;
      no_post = ap (λ (j : job.Job ((State × Grant) × Pass)). j.unsent) is;
    }

-- after a turn the counts have room for what is left, and the pass may post what the board has made
pub still_holds :
    AreAllNumbered → (b b' : State) (g g' : Grant) (pass : Pass) (from first n : ℕ) → n ≤ left g →
    IsPaid b.view.numbers g × MayPost b.view.numbers b.posts pass → b' ≡ after b (stretch b.view from first n) →
    g' ≡ spent g n → IsPaid b'.view.numbers g' × MayPost b'.view.numbers b'.posts pass
still_holds numbered b b' g g' pass from first n few (paid, may) board_is grant_is =
    let is = numbered b.view from first n (omega (arith, few, paid.posts)) (omega (arith, few, paid.entries)) in
    rw (board_is, grant_is) (
      record {
        speed = paid.speed ∙ sym is.speed;
        posts = omega (arith, few, paid.posts, is.posted, is.few_posts);
        entries = omega (arith, few, paid.entries, is.entered, is.few_entries);
      },
      turn_keeps b.view.numbers n (stretch b.view from first n) b.posts pass may is,
    )
