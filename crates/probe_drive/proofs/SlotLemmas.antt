-- Several jobs, of which one at a time takes some slots.
use Rattle.std.proofs.Common.{◌≡◌, ℕ, zero, suc, ◌+◌, ◌-◌, ◌<◌, ◌≤◌, min, List, [], ◌∷◌, length, map, get_or, set}
use Rattle.std.proofs.Common.{◌∙◌, ◌⊎◌, inl, inr, refl, sym, ap, arith, subst, All, Option, Some, slice_get}
use Rattle.std.specs.List.{AllZip, sum_by}
use Rattle.std.proofs.lemmas.List.Sums.{sum_by-cons, sum_by-set}
use Rattle.std.proofs.lemmas.Option.{get_or_from_slice_get, same_Some, slice_get-get_or, slice_get_within}
use Rattle.std.proofs.lemmas.List.Elements.{All-head, All-tail}
use Rattle.dev_core.specs.declared.post.Post.{Post}
use Rattle.floor_core.specs.Job.{Job, Rests, after}
use Rattle.probe_jobs.specs.Course.{After, AreIdle, Partly, OneTakes, slots_left}
use Rattle.probe_jobs.specs.Next.{due, NoneBefore, NoneLeft, IsNext}
use Rattle.probe_jobs.specs.Told.{Told, Follow, shown}
use Rattle.probe_jobs.specs.declared.slot.Slot.{Slot}
use Rattle.probe_drive.proofs.CourseLemmas.{TurnsAdd, PostsAdd, idle_after, left_after, more_slots, whole}

-- one place is changed
zip_set :
    {X Y : Type 0} (R : X → Y → Type 0) (xs : List X) (ys : List Y) (i : ℕ) (old new : Y) →
    slice_get ys i ≡ Some old → ((x : X) → R x old → R x new) → AllZip R xs ys → AllZip R xs (set ys i new)
zip_set R [] [] i old new there more zip = absurd (cc)
zip_set R [] (z ∷ ys) i old new there more zip = absurd zip
zip_set R (x ∷ xs) [] i old new there more zip = absurd zip
zip_set R (x ∷ xs) (z ∷ ys) zero old new there more zip =
    (more x (subst (λ y. R x y) (same_Some z old there) zip.0), zip.1)
zip_set R (x ∷ xs) (z ∷ ys) (suc i) old new there more zip = (zip.0, zip_set R xs ys i old new there more zip.1)

-- what holds of each pair holds of the second at a place
zip_at :
    {X Y : Type 0} (R : X → Y → Type 0) (P : Y → Type 0) → ((x : X) (y : Y) → R x y → P y) →
    (xs : List X) (ys : List Y) (i : ℕ) (y : Y) → AllZip R xs ys → slice_get ys i ≡ Some y → P y
zip_at R P each [] [] i y zip there = absurd (cc)
zip_at R P each [] (z ∷ ys) i y zip there = absurd zip
zip_at R P each (x ∷ xs) [] i y zip there = absurd zip
zip_at R P each (x ∷ xs) (z ∷ ys) zero y zip there = subst P (same_Some z y there) (each x z zip.0)
zip_at R P each (x ∷ xs) (z ∷ ys) (suc i) y zip there = zip_at R P each xs ys i y zip.1 there

-- where each is at its end, the lists are
pub zip_end :
    {X Y C : Type 0} (R : X → Y → Type 0) (P : Y → Type 0) (f : X → C) (g : Y → C) →
    ((x : X) (y : Y) → R x y → P y → g y ≡ f x) → (xs : List X) (ys : List Y) → AllZip R xs ys →
    ((k : ℕ) → k < length ys → (y : Y) → slice_get ys k ≡ Some y → P y) → map g ys ≡ map f xs
zip_end R P f g each [] [] zip ended = refl
zip_end R P f g each [] (y ∷ ys) zip ended = absurd zip
zip_end R P f g each (x ∷ xs) [] zip ended = absurd zip
zip_end R P f g each (x ∷ xs) (y ∷ ys) zip ended =
    let here = each x y zip.0 (ended 0 (omega arith) y refl) in
    let rest = zip_end R P f g each xs ys zip.1 (λ k below z is. ended (suc k) (omega arith) z is) in
    λ k. here k ∷ rest k

-- what is there once a place is changed
get_set :
    {X : Type 0} (xs : List X) (i k : ℕ) (y z : X) → slice_get (set xs i y) k ≡ Some z →
    ((k ≡ i) × (z ≡ y)) ⊎ (slice_get xs k ≡ Some z)
get_set [] i k y z is = absurd (cc)
get_set (x ∷ xs) zero zero y z is = inl (refl, sym (same_Some y z is))
get_set (x ∷ xs) zero (suc k) y z is = inr is
get_set (x ∷ xs) (suc i) zero y z is = inr is
get_set (x ∷ xs) (suc i) (suc k) y z is =
    elim (get_set xs i k y z is) [ inl h ↦ inl (ap suc h.0, h.1) | inr h ↦ inr h ]

module _ {J S : Type 0} (meaning : J → Job S) (sent : J → List Post)
    (state_after : S → List (Option Post) → ℕ → S) where
  -- none has taken a slot
  pub all_begin :
      Rests state_after → (jobs : List J) → All (λ job. (meaning job).unsent ≡ []) jobs →
      AllZip (Partly meaning sent state_after) jobs jobs
  all_begin rests [] none = tt
  all_begin rests (job ∷ jobs) none = (
    whole meaning sent state_after rests job (All-head (λ j. (meaning j).unsent ≡ []) job jobs none),
    all_begin rests jobs (All-tail (λ j. (meaning j).unsent ≡ []) job jobs none),
  )

  -- a job that has taken some slots has sent all its posts
  pub none_unsent :
      (starts jobs : List J) (i : ℕ) (job : J) → AllZip (Partly meaning sent state_after) starts jobs →
      slice_get jobs i ≡ Some job → (meaning job).unsent ≡ []
  none_unsent starts jobs i job stand there =
      zip_at (Partly meaning sent state_after) (λ j. (meaning j).unsent ≡ [])
      (λ start j p. ap (λ (a : Job S). a.unsent) p.2.job_is) starts jobs i job stand there

  -- where one takes some slots more, each has taken some of its slots
  pub still_stand :
      TurnsAdd state_after → PostsAdd state_after → (starts jobs later : List J) (i n : ℕ) →
      OneTakes meaning sent state_after i n jobs later → AllZip (Partly meaning sent state_after) starts jobs →
      AllZip (Partly meaning sent state_after) starts later
  still_stand turns more starts jobs later i n (job, next, there, few, t, is) stand =
      subst (AllZip (Partly meaning sent state_after) starts) (sym is)
      (zip_set (Partly meaning sent state_after) starts jobs i job next there
      (λ start p. more_slots meaning sent state_after turns more start job next n few t p) stand)

  -- one that has a slot left takes it
  pub one_takes :
      (jobs : List J) (i : ℕ) (job old next : J) → slice_get jobs i ≡ Some job → 0 < slots_left meaning job →
      old ≡ get_or jobs i old → After meaning sent state_after old (min 1 (slots_left meaning old)) next →
      OneTakes meaning sent state_after i 1 jobs (set jobs i next)
  one_takes jobs i job old next there some is t =
      let same : old ≡ job = is ∙ get_or_from_slice_get jobs i job old there in
      let one : min 1 (slots_left meaning job) ≡ 1 = omega arith in (
        job,
        next,
        there,
        omega arith,
        subst (λ (n : ℕ). After meaning sent state_after job n next) one
            (subst (λ (j : J). After meaning sent state_after j (min 1 (slots_left meaning j)) next) same t),
        refl,
      )

  -- so does the one that is next
  pub next_takes :
      (time : S → ℕ) (slot : Slot) (jobs same : List J) (old next : J) → same ≡ jobs →
      IsNext meaning time slot jobs (length jobs) → old ≡ get_or same slot.place old →
      After meaning sent state_after old (min 1 (slots_left meaning old)) next →
      OneTakes meaning sent state_after slot.place 1 jobs (set same slot.place next)
  next_takes time slot jobs same old next same_is is read t =
      subst (λ (l : List J). OneTakes meaning sent state_after slot.place 1 jobs (set l slot.place next)) (sym same_is)
      (one_takes jobs slot.place is.0 old next is.2 is.3
      (read ∙ ap (λ (l : List J). get_or l slot.place old) same_is) t)

  -- one that is shown and then takes its slot follows
  pub shown_follow :
      (time : S → ℕ) (told new : Told J) (slot : Slot) (jobs same : List J) (old next : J) → same ≡ jobs →
      IsNext meaning time slot jobs (length jobs) → old ≡ get_or same slot.place old →
      After meaning sent state_after old (min 1 (slots_left meaning old)) next → new ≡ shown told slot same →
      Follow meaning sent state_after new (set same slot.place next)
  shown_follow time told new slot jobs same old next same_is is read t new_is =
      let next_is : IsNext meaning time slot same (length same) =
      subst (λ (l : List J). IsNext meaning time slot l (length l)) (sym same_is) is in
      subst (λ (all : Told J). Follow meaning sent state_after all (set same slot.place next)) (sym new_is)
      (inr (omega arith, next_takes time slot same same old next refl next_is read t))

  -- one passes over idle slots
  pub one_passes :
      (idled : S → ℕ → S) (jobs : List J) (i : ℕ) (old next : J) (n : ℕ) → i < length jobs →
      ((job : J) → slice_get jobs i ≡ Some job → (meaning job).unsent ≡ []) → old ≡ get_or jobs i old →
      n ≤ slots_left meaning old → AreIdle state_after idled (meaning old) n →
      meaning next ≡ after state_after (meaning old) n → sent next ≡ sent old →
      OneTakes meaning sent state_after i n jobs (set jobs i next)
  one_passes idled jobs i old next n within quiet is few idle next_is same =
      let there : slice_get jobs i ≡ Some old =
      slice_get-get_or jobs i old within ∙ ap (λ (j : J). Some j) (sym is) in (
        old,
        next,
        there,
        few,
        idle_after meaning sent state_after idled old next n (quiet old there) idle next_is same,
        refl,
      )

  -- where one takes some slots, fewer are left
  pub fewer :
      (jobs later : List J) (i n : ℕ) → 0 < n → OneTakes meaning sent state_after i n jobs later →
      sum_by (slots_left meaning) later < sum_by (slots_left meaning) jobs
  fewer jobs later i n some (job, next, there, few, t, is) =
      let f : J → ℕ = slots_left meaning in
      let within : i < length jobs = slice_get_within jobs i job there in
      let left_over : f next ≡ f job - n = left_after meaning sent state_after job next n t in
      let same : f (get_or jobs i job) ≡ f job = ap f (get_or_from_slice_get jobs i job job there) in
      let sums : sum_by f later ≡ sum_by f (set jobs i next) = ap (sum_by f) is in
      omega (arith, sum_by-set f jobs i next job within)

  -- no slot lies before the beginning
  pub none_before_first :
      (time : S → ℕ) (jobs : List J) → NoneBefore meaning time (record { at = 0; place = 0 }) jobs (length jobs)
  none_before_first time jobs k below job is some = (omega arith, λ lower. absurd (omega (arith, lower)))

  -- the law that a later slot lies no earlier
  abbrev pub Rises : (S → ℕ) → Type 0
  Rises time = (s : S) (coming : List (Option Post)) (n : ℕ) → n < length coming →
      time s ≤ time (state_after s coming n)

  -- where a job takes some slots, none comes before one that none was before
  pub none_before :
      (time : S → ℕ) → Rises time → (slot : Slot) (jobs later : List J) (i n : ℕ) →
      OneTakes meaning sent state_after i n jobs later → NoneBefore meaning time slot jobs (length jobs) →
      NoneBefore meaning time slot later (length later)
  none_before time rises slot jobs later i n (job, next, there, few, t, later_is) before k within other is some =
      let within_i : i < length jobs = slice_get_within jobs i job there in
      elim (get_set jobs i k next other (subst (λ (l : List J). slice_get l k ≡ Some other) later_is is)) [
        | inl h ↦
            let f : J → ℕ = slots_left meaning in
            let m : ℕ = f job in
            let left_over : f next ≡ m - n = left_after meaning sent state_after job next n t in
            let same : f other ≡ f next = ap f h.1 in
            let was = before i within_i job there (omega arith) in
            let rise : due meaning time job ≤ time (state_after (meaning job).state (meaning job).coming n) =
            rises (meaning job).state (meaning job).coming n (omega arith) in
            let is_then : due meaning time other ≡ time (state_after (meaning job).state (meaning job).coming n) =
            ap (due meaning time) h.1 ∙ ap (λ (j : Job S). time j.state) t.job_is in
            (omega (arith, was.0), λ lower. omega (arith, was.1 (omega (arith, h.0))))
        | inr had ↦ before k (slice_get_within jobs k other had) other had some
      ]
