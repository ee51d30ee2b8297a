-- Slots of a board one after another, as those of a job.
use Rattle.std.proofs.Common.{◌≡◌, ◌∙◌, ℕ, zero, suc, ◌+◌, ◌-◌, ◌<◌, ◌≤◌}
use Rattle.std.proofs.Common.{◌^◌, List, [], ◌∷◌, ◌++◌, length, take, drop}
use Rattle.std.proofs.Common.{refl, sym, ap, arith, Option, Some, None, slice_get, option_to_list}
use Rattle.std.proofs.Common.{append_assoc, append-nil, add-zero}
use Rattle.dev_core.specs.declared.post.Post.{Post}
use Rattle.board.specs.View.{View, State, quiet, after}
use Rattle.board.specs.Stretch.{stretch}
use Rattle.board.specs.Numbered.{IsNumbered}
use Rattle.hub_mail.specs.Pass.{Pass}
use Rattle.floor_core.specs.Job as job
use Rattle.floor_core.specs.Job.{posts}
use Rattle.time_handle.specs.Grant.{Grant, left}
use Rattle.board_job.specs.Slots.{spent, stepped, next, slots_to_come, moved, moved_by, job_of, state_after}
use Rattle.board_job.specs.Slots.{unposted, unused}

-- a slot to come for each that is asked for
pub length-coming : (v : View) (g : Grant) (n : ℕ) → length (slots_to_come v g n) ≡ n
unfolding slots_to_come
length-coming v g zero = refl
length-coming v g (suc n) = ap suc (length-coming (next v g).view (spent g 1) n)

-- after some slots, the others are to come
pub coming-drop :
    (s : State × Grant) (n k : ℕ) →
    drop n (slots_to_come s.0.view s.1 (n + k)) ≡ slots_to_come (moved_by s n).0.view (moved_by s n).1 k
unfolding slots_to_come moved_by
coming-drop s zero k =
    let none : 0 + k ≡ k = omega arith in
    ap (λ (m : ℕ). slots_to_come s.0.view s.1 m) none
coming-drop s (suc n) k =
    let more : suc n + k ≡ suc (n + k) = omega arith in
    ap (λ (m : ℕ). drop (suc n) (slots_to_come s.0.view s.1 m)) more ∙ coming-drop (moved s) n k

-- a stretch of no slots
stretch-none : (v : View) (from a : ℕ) → stretch v from a 0 ≡ quiet v
unfolding stretch
stretch-none v from a = refl

-- that a stretch and the one after it are one stretch
abbrev pub Joins : Type 0
Joins = (v : View) (from a m n : ℕ) →
    stretch v from a (m + n) ≡ after (stretch v from a m) (stretch (stretch v from a m).view from (a + m) n)

-- a stretch, and its first slot
pub first_slot :
    Joins → (v : View) (g : Grant) (n : ℕ) →
    stretch v g.from g.used (suc n) ≡ after (next v g) (stretch (next v g).view g.from (g.used + 1) n)
first_slot joins v g n =
    let more : suc n ≡ 1 + n = omega arith in
    ap (λ (m : ℕ). stretch v g.from g.used m) more ∙ joins v g.from g.used 1 n

-- slots one after another are the stretch
pub moved_is :
    Joins → (b : State) (g : Grant) (n : ℕ) →
    moved_by (b, g) n ≡ (record (stepped b g n) { posts = b.posts }, spent g n)
unfolding moved_by
moved_is joins b g zero =
    rw (stretch-none b.view g.from g.used, append-nil b.entries, add-zero) refl
moved_is joins b g (suc n) =
    moved_is joins (record (stepped b g 1) { posts = b.posts }) (spent g 1) n ∙
    rw (
      first_slot joins b.view g n,
      append_assoc b.entries (next b.view g).entries (stretch (next b.view g).view g.from (g.used + 1) n).entries,
      add_more g.used n,
    ) refl
  where
    add_more : (a n : ℕ) → a + 1 + n ≡ a + suc n
    add_more a n = omega arith

-- that a stretch numbers what it makes
abbrev pub AreAllNumbered : Type 0
AreAllNumbered = (v : View) (from a n : ℕ) →
    v.numbers.posted + n < 2 ^ 64 → v.numbers.entered + n < 2 ^ 64 → IsNumbered v.numbers n (stretch v from a n)

posts-cons : (x : Option Post) (xs : List (Option Post)) → posts (x ∷ xs) ≡ option_to_list x ++ posts xs
posts-cons None xs = refl
posts-cons (Some p) xs = refl

at_most_one : (ps : List Post) → length ps ≤ 1 → option_to_list (slice_get ps 0) ≡ ps
at_most_one [] few = refl
at_most_one (p ∷ []) few = refl
at_most_one (p ∷ q ∷ ps) few = absurd (omega arith)

-- the posts of the slots to come are those of the stretch
pub coming-posts :
    Joins → AreAllNumbered → (v : View) (g : Grant) (n k : ℕ) →
    v.numbers.posted + n < 2 ^ 64 → v.numbers.entered + n < 2 ^ 64 →
    posts (take n (slots_to_come v g (n + k))) ≡ (stretch v g.from g.used n).posts
unfolding slots_to_come
coming-posts joins numbered v g zero k posted entered = ap (λ (s : State). s.posts) (sym (stretch-none v g.from g.used))
coming-posts joins numbered v g (suc n) k posted entered =
    let more : suc n + k ≡ suc (n + k) = omega arith in
    let one = numbered v g.from g.used 1 (omega (arith, posted)) (omega (arith, entered)) in
    let rest =
    coming-posts joins numbered (next v g).view (spent g 1) n k (omega (arith, posted, one.posted, one.few_posts))
    (omega (arith, entered, one.entered, one.few_entries)) in
    ap (λ (m : ℕ). posts (take (suc n) (slots_to_come v g m))) more ∙
    (posts-cons (slice_get (next v g).posts 0) (take n (slots_to_come (next v g).view (spent g 1) (n + k))) ∙
    ((λ i. at_most_one (next v g).posts one.few_posts i ++ rest i) ∙
    ap (λ (s : State). s.posts) (sym (first_slot joins v g n))))

-- some slots of a board are those of its job
pub turn_is :
    Joins → AreAllNumbered → (b : State) (g : Grant) (pass : Pass) (n : ℕ) → n ≤ left g →
    b.view.numbers.posted + n < 2 ^ 64 → b.view.numbers.entered + n < 2 ^ 64 →
    job.after state_after (job_of b g pass) n ≡ job_of (stepped b g n) (spent g n) pass
turn_is joins numbered b g pass n enough posted entered =
    let all : left g ≡ n + (left g - n) = omega (arith, enough) in
    let rest : left g - n ≡ left (spent g n) = omega arith in
    let moves = moved_is joins (unposted b) g n in
    let coming_is : drop n (slots_to_come b.view g (left g))
    ≡ slots_to_come (stepped b g n).view (spent g n) (left (spent g n)) =
    ap (λ (m : ℕ). drop n (slots_to_come b.view g m)) all ∙
    (coming-drop (unposted b, g) n (left g - n) ∙
    (λ i. slots_to_come (moves i).0.view (moves i).1 (rest i))) in
    let unsent_is : b.posts ++ posts (take n (slots_to_come b.view g (left g)))
    ≡ b.posts ++ (stretch b.view g.from g.used n).posts =
    ap (λ (l : List Post). b.posts ++ l)
    (ap (λ (m : ℕ). posts (take n (slots_to_come b.view g m))) all ∙
    coming-posts joins numbered b.view g n (left g - n) posted entered) in
    λ i. record { state = (moves i, unused pass); coming = coming_is i; unsent = unsent_is i }
