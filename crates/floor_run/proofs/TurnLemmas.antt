-- A turn more of a job is a turn more of its start.
use Rattle.std.proofs.Common.{◌≡◌, ◌≢◌, ℕ, ◌+◌, ◌-◌, ◌*◌, ◌/◌, ◌≤◌, ◌⊎◌, inl, inr, Bool, if◌then◌else◌, List, [], ◌∷◌}
use Rattle.std.proofs.Common.{◌++◌, length, min, take, drop, sym, ap, ◌∙◌, subst, arith, append_assoc, append-nil}
use Rattle.std.proofs.Common.{length-drop, eq-eqb, ne_eqb, Option}
use Rattle.std.proofs.lemmas.Bool.{cases_eq}
use Rattle.atomic_table.specs.Table.{rest}
use Rattle.dev_core.specs.declared.post.Post.{Post}
use Rattle.floor_core.specs.Job as jobs
use Rattle.floor_core.specs.Job.{Job, posts, made, aside, after, Rests}
use Rattle.floor_run.specs.Rule.{home, done, word_of, home_word}
use Rattle.floor_run.specs.Turns.{After, slots_left, paid, AfterTurns, IsTurned}
use Rattle.floor_run.proofs.StepLemmas.{Ends}

-- a list whose first item is known, at a place that is known by another name
pub front :
    {X : Type 0} (l m : List (ℕ × X)) (i k : ℕ) (x : X) → l ≡ (i, x) ∷ m → i ≡ k → l ≡ (k, x) ∷ rest l
front l m i k x e same = e ∙ (λ t. (same t, x) ∷ sym (ap rest e) t)

module _ {S : Type 0} (state_after : S → List (Option Post) → ℕ → S) where
  -- what the law `turns_add_up` of floor_core says
  abbrev pub TurnsAdd : Type 0
  TurnsAdd = (j : Job S) (a b : ℕ) → a + b ≤ jobs.left j →
      after state_after (after state_after j a) b ≡ after state_after j (a + b)

  abbrev pub PostsAdd : Type 0
  PostsAdd = (j : Job S) (a b : ℕ) → made (after state_after j a) b ≡ made j (a + b)

-- the word of a board at home, by whether no slots are left
abbrev word_if : ℕ → Bool → ℕ
word_if r b = word_of r (if b then done else home)

module _ {J S : Type 0} (meaning : J → Job S) (sent : J → List Post)
    (state_after : S → List (Option Post) → ℕ → S) where
  abbrev L : J → ℕ
  L = slots_left meaning

  abbrev Is : J → ℕ → J → Type 0
  Is = After meaning sent state_after

  abbrev Turned : J → ℕ → J → Type 0
  Turned = AfterTurns meaning sent state_after

  -- a job is itself after no turn
  pub begins : Rests state_after → (start : J) → (meaning start).unsent ≡ [] → Turned start 0 start
  begins rests start none =
      let zero_is : paid meaning start 0 ≡ 0 = omega arith in
      subst (λ (n : ℕ). Is start n start) (sym zero_is) record {
        job_is = λ k. record {
          state = sym (rests (meaning start).state (meaning start).coming) k;
          coming = (meaning start).coming;
          unsent = none k;
        };
        sent_is =
            sym (append-nil (sent start)) ∙
            ap (λ l. sent start ++ l) (sym (append-nil (meaning start).unsent ∙ none));
      }

  pub left_after : (start job : J) (n : ℕ) → Is start n job → L job ≡ L start - n
  left_after start job n is = ap (λ (j : Job S). length j.coming) is.job_is ∙ length-drop n (meaning start).coming

  -- the next b slots after the next a are the next a + b
  pub adds_up :
      TurnsAdd state_after → PostsAdd state_after → (start claimed job : J) (a b : ℕ) →
      a + b ≤ L start → Is start a claimed → Is claimed b job → Is start (a + b) job
  adds_up turns more start claimed job a b fits x y = record {
    job_is =
        y.job_is ∙
        (ap (λ (j : Job S). aside (after state_after j b)) x.job_is ∙ ap aside (turns (meaning start) a b fits));
    sent_is =
        y.sent_is ∙
        ((λ k. x.sent_is k ++ made (x.job_is k) b) ∙
        (append_assoc (sent start) (made (meaning start) a) (posts (take b (drop a (meaning start).coming))) ∙
        ap (λ z. sent start ++ z) (more (meaning start) a b)));
  }

  -- one turn more
  pub next :
      TurnsAdd state_after → PostsAdd state_after → (start claimed job : J) (q : ℕ) →
      Turned start q claimed → IsTurned meaning sent state_after claimed job → Turned start (q + 1) job
  next turns more start claimed job q x y =
      let a : ℕ = paid meaning start q in
      let b : ℕ = min 4096 (L claimed) in
      let l : L claimed ≡ L start - a = left_after start claimed a x in
      let n : ℕ = L start in
      let m : ℕ = L claimed in
      let sum : a + b ≡ min n (4096 * (q + 1)) = omega arith in
      subst (λ (k : ℕ). Is start k job) sum (adds_up turns more start claimed job a b (omega arith) x y)

  -- the word that a report stores counts one report more than the claim found
  pub counts :
      (job : J) (found reports word : ℕ) → found ≡ 4 * reports →
      ((L job ≡ 0) × (word ≡ 4 * (reports + 1) + 3)) ⊎ ((¬ (L job ≡ 0)) × (word ≡ 4 * (reports + 1))) →
      word ≡ home_word L (found / 4 + 1) job
  counts job found reports word is (inl e) =
      let same : word ≡ 4 * (found / 4 + 1) + 3 = e.1 ∙ (omega arith) in
      same ∙ ap (word_if (found / 4 + 1)) (sym (eq-eqb (L job) 0 e.0))
  counts job found reports word is (inr e) =
      let same : word ≡ 4 * (found / 4 + 1) = e.1 ∙ (omega arith) in
      same ∙ ap (word_if (found / 4 + 1)) (sym (ne_eqb (L job) 0 e.0))

  -- and says whether slots are left
  pub ends : (start job : J) (q word : ℕ) → word ≡ home_word L q job → Turned start q job → Ends L Turned word start q
  ends start job q word is x = elim (cases_eq (L job) 0) [
    | inl nothing ↦
        let n : ℕ = L start in
        let m : ℕ = L job in
        let l : m ≡ n - min n (4096 * q) = left_after start job _ x in
        let nothing' : m ≡ 0 = nothing in
        inr (is ∙ ap (word_if q) (eq-eqb (L job) 0 nothing), omega arith)
    | inr some ↦
        let n : ℕ = L start in
        let m : ℕ = L job in
        let l : m ≡ n - min n (4096 * q) = left_after start job _ x in
        let some' : m ≢ 0 = some in
        inl (is ∙ ap (word_if q) (ne_eqb (L job) 0 some), omega arith)
  ]
