-- Some slots of a job and then some more.
use Rattle.std.proofs.Common.{◌≡◌, ℕ, ◌+◌, ◌-◌, ◌≤◌, List, [], ◌++◌, length, take, drop, sym, ap, ◌∙◌, subst, arith}
use Rattle.std.proofs.Common.{append_assoc, append-nil, length-drop, Option}
use Rattle.dev_core.specs.declared.post.Post.{Post}
use Rattle.floor_core.specs.Job as jobs
use Rattle.floor_core.specs.Job.{Job, posts, made, aside, after, Rests}
use Rattle.probe_jobs.specs.Course.{After, Partly, AreIdle, slots_left}

module _ {S : Type 0} (state_after : S → List (Option Post) → ℕ → S) where
  -- what the law `turns_add_up` of floor_core says
  abbrev pub TurnsAdd : Type 0
  TurnsAdd = (j : Job S) (a b : ℕ) → a + b ≤ jobs.left j →
      after state_after (after state_after j a) b ≡ after state_after j (a + b)

  abbrev pub PostsAdd : Type 0
  PostsAdd = (j : Job S) (a b : ℕ) → made (after state_after j a) b ≡ made j (a + b)

module _ {J S : Type 0} (meaning : J → Job S) (sent : J → List Post)
    (state_after : S → List (Option Post) → ℕ → S) where
  abbrev Is : J → ℕ → J → Type 0
  Is = After meaning sent state_after

  -- none of the slots yet
  pub whole :
      Rests state_after → (start : J) → (meaning start).unsent ≡ [] → Partly meaning sent state_after start start
  whole rests start none = (
    0,
    omega arith,
    record {
      job_is = λ k. record {
        state = sym (rests (meaning start).state (meaning start).coming) k;
        coming = (meaning start).coming;
        unsent = none k;
      };
      sent_is =
          sym (append-nil (sent start)) ∙
          ap (λ l. sent start ++ l) (sym (append-nil (meaning start).unsent ∙ none));
    },
  )

  pub left_after : (start job : J) (n : ℕ) → Is start n job → slots_left meaning job ≡ slots_left meaning start - n
  left_after start job n is = ap (λ (j : Job S). length j.coming) is.job_is ∙ length-drop n (meaning start).coming

  -- the next b slots after the next a are the next a + b
  adds_up :
      TurnsAdd state_after → PostsAdd state_after → (start claimed job : J) (a b : ℕ) →
      a + b ≤ slots_left meaning start → Is start a claimed → Is claimed b job → Is start (a + b) job
  adds_up turns more start claimed job a b fits x y = record {
    job_is =
        y.job_is ∙
        (ap (λ (j : Job S). aside (after state_after j b)) x.job_is ∙ ap aside (turns (meaning start) a b fits));
    sent_is =
        y.sent_is ∙
        ((λ k. x.sent_is k ++ made (x.job_is k) b) ∙
        (append_assoc (sent start) (made (meaning start) a) (posts (take b (drop a (meaning start).coming))) ∙
        ap (λ z. sent start ++ z) (more (meaning start) a b)));
  }

  -- some slots more
  pub more_slots :
      TurnsAdd state_after → PostsAdd state_after → (start job next : J) (n : ℕ) → n ≤ slots_left meaning job →
      Is job n next → Partly meaning sent state_after start job → Partly meaning sent state_after start next
  more_slots turns more start job next n few t p =
      let a : ℕ = p.0 in
      let k : ℕ = slots_left meaning start in
      let m : ℕ = slots_left meaning job in
      let l : m ≡ k - a = left_after start job a p.2 in
      let below : a ≤ k = p.1 in
      (a + n, omega arith, adds_up turns more start job next a n (omega arith) p.2 t)

  -- where nothing is left, all slots are taken
  pub ended :
      (start job : J) → Partly meaning sent state_after start job → slots_left meaning job ≤ 0 →
      Is start (slots_left meaning start) job
  ended start job p none_left =
      let n : ℕ = p.0 in
      let k : ℕ = slots_left meaning start in
      let m : ℕ = slots_left meaning job in
      let l : m ≡ k - n = left_after start job n p.2 in
      let below : n ≤ k = p.1 in
      let all : n ≡ k = omega arith in
      subst (λ (i : ℕ). Is start i job) all p.2

  -- a job that has posted nothing in idle slots has sent all that it has
  pub idle_after :
      (idled : S → ℕ → S) (job next : J) (n : ℕ) → (meaning job).unsent ≡ [] →
      AreIdle state_after idled (meaning job) n → meaning next ≡ after state_after (meaning job) n →
      sent next ≡ sent job → Is job n next
  idle_after idled job next n none idle is same =
      let quiet : made (meaning job) n ≡ [] = idle.no_post ∙ none in record {
        job_is = is ∙ (λ k. record (after state_after (meaning job) n) { unsent = quiet k });
        sent_is = same ∙ (sym (append-nil (sent job)) ∙ ap (λ l. sent job ++ l) (sym quiet));
      }
