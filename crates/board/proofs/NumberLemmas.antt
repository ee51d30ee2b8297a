-- A stretch keeps the plan, the devices and the speed of a board, and numbers what it makes.
use Rattle.std.proofs.Common.{◌≡◌, ℕ, zero, suc, ◌+◌, ◌^◌, ◌<◌, ◌≤◌, List, [], ◌∷◌, ◌++◌, length, map, refl, ◌∙◌}
use Rattle.std.proofs.Common.{length-append, add-zero, add-one, arith}
use Rattle.std.proofs.lemmas.List.{map-append, length-map, length-set}
use Rattle.lab_num.specs.declared.key.Key.{Key}
use Rattle.lab_num.specs.Numbered.{AreNumbered}
use Rattle.lab_num.specs.Paid.{slot_at}
use Rattle.board.specs.HartView.{hart_view}
use Rattle.board.specs.Numbered.{IsNumbered}
use Rattle.board.specs.Numbers.{one_more}
use Rattle.board.specs.Slot.{slot, in_turn}
use Rattle.board.specs.Stretch.{stretch}
use Rattle.board.specs.View.{View, State, quiet, after}
use Rattle.board.proofs.SlotLemmas.{by_slot}
use Rattle.board.proofs.ToldLemmas.{IsKept, kept_same, kept_after}

-- the keys of what a board has made in at most so many slots, where its counter does not come to its last value
pub record IsCounted (board from to n : ℕ) (made : List Key) : Type 0 where
  pub count : to ≡ from + length made
  pub few : length made ≤ n
  pub keys : AreNumbered board from made

abbrev pub Counts : ℕ → ℕ → ℕ → ℕ → List Key → Type 0
Counts board from to n made = from + n < 2 ^ 64 → IsCounted board from to n made

counts-none : (board from n : ℕ) → Counts board from from n []
counts-none board from n room = record { count = omega arith; few = omega arith; keys = tt }

counts-one : (board from : ℕ) (key : Key) → key.board.0 ≡ board → key.number.0 ≡ from →
    Counts board from (one_more from) 1 (key ∷ [])
counts-one board from key own number room =
    record { count = omega (arith, room); few = omega arith; keys = (own, number, tt) }

AreNumbered-append :
    (board first : ℕ) (xs ys : List Key) → AreNumbered board first xs → AreNumbered board (first + length xs) ys →
    AreNumbered board first (xs ++ ys)
AreNumbered-append board first [] ys p q = rw add-zero at q
AreNumbered-append board first (x ∷ xs) ys p q =
    let later : first + length (x ∷ xs) ≡ first + 1 + length xs = omega arith in
    (p.0, p.1, AreNumbered-append board (first + 1) xs ys p.2 (rw later at q))

counts-after :
    (board board' from mid to m n : ℕ) (xs ys : List Key) → board' ≡ board →
    Counts board from mid m xs → Counts board' mid to n ys → Counts board from to (m + n) (xs ++ ys)
counts-after board board' from mid to m n xs ys same first second room =
    let a = first (omega (arith, room)) in
    let b = second (omega (arith, room, a.count, a.few)) in
    record {
      count = omega (arith, a.count, b.count, length-append xs ys);
      few = omega (arith, a.few, b.few, length-append xs ys);
      keys = AreNumbered-append board from xs ys a.keys (rw (same, a.count) at b.keys);
    }

-- what at most so many slots leave of a board
pub record IsRun (old : View) (n : ℕ) (run : State) : Type 0 where
  pub kept : IsKept old.space run.view.space
  pub number : run.view.numbers.number ≡ old.numbers.number
  pub speed : run.view.numbers.speed ≡ old.numbers.speed
  pub posts :
      Counts old.numbers.number old.numbers.posted run.view.numbers.posted n (map (λ post. post.key) run.posts)
  pub entries :
      Counts old.numbers.number old.numbers.entered run.view.numbers.entered n (map (λ entry. entry.key) run.entries)

run_none : (v : View) (n : ℕ) → IsRun v n (quiet v)
run_none v n = record {
  kept = kept_same v.space;
  number = refl;
  speed = refl;
  posts = counts-none _ _ _;
  entries = counts-none _ _ _;
}

run_slot : (v : View) (t : ℕ) → IsRun v 1 (slot v t)
unfolding slot
run_slot v t =
    by_slot (λ run. IsRun v 1 (in_turn v run)) (hart_view v v.next) t
    (record {
      nothing = λ s kept core watch. record {
        kept = kept;
        number = refl;
        speed = refl;
        posts = counts-none _ _ _;
        entries = counts-none _ _ _;
      };
      entry = λ s note kept told core watch. record {
        kept = kept;
        number = refl;
        speed = refl;
        posts = counts-none _ _ _;
        entries = counts-one _ _ _ refl refl;
      };
      post = λ s dev payload kept sender core watch. record {
        kept = kept;
        number = refl;
        speed = refl;
        posts = counts-one _ _ _ refl refl;
        entries = counts-none _ _ _;
      };
      both = λ s dev payload note kept sender told core watch. record {
        kept = kept;
        number = refl;
        speed = refl;
        posts = counts-one _ _ _ refl refl;
        entries = counts-one _ _ _ refl refl;
      };
    })

-- one stretch after another
run_after :
    (old : View) (m n : ℕ) (run more : State) → IsRun old m run → IsRun run.view n more →
    IsRun old (m + n) (after run more)
run_after old m n run more first second = record {
  kept = kept_after _ _ _ first.kept second.kept;
  number = second.number ∙ first.number;
  speed = second.speed ∙ first.speed;
  posts = rw map-append (counts-after _ _ _ _ _ m n _ _ first.number first.posts second.posts);
  entries = rw map-append (counts-after _ _ _ _ _ m n _ _ first.number first.entries second.entries);
}

run_stretch : (v : View) (from a n : ℕ) → IsRun v n (stretch v from a n)
unfolding stretch
run_stretch v from a zero = run_none v 0
run_stretch v from a (suc n) =
    let run = stretch v from a n in
    let t = slot_at from v.numbers.speed (a + n) in
    rw add-one at (run_after v n 1 run (slot run.view t) (run_stretch v from a n) (run_slot run.view t))

-- a slot keeps the plan and the speed
pub plan-slot : (v : View) (t : ℕ) → (slot v t).view.space.plan ≡ v.space.plan
plan-slot v t = (run_slot v t).kept.plan

pub speed-slot : (v : View) (t : ℕ) → (slot v t).view.numbers.speed ≡ v.numbers.speed
speed-slot v t = (run_slot v t).speed

pub cores-slot : (v : View) (t : ℕ) → length (slot v t).view.cores ≡ length v.cores
unfolding slot
cores-slot v t = length-set v.cores v.next _

-- a stretch keeps the plan, the devices, and the board's number and speed
pub kept-stretch : (v : View) (from a n : ℕ) → IsKept v.space (stretch v from a n).view.space
kept-stretch v from a n = (run_stretch v from a n).kept

pub plan-stretch : (v : View) (from a n : ℕ) → (stretch v from a n).view.space.plan ≡ v.space.plan
plan-stretch v from a n = (kept-stretch v from a n).plan

pub cores-stretch : (v : View) (from a n : ℕ) → length (stretch v from a n).view.cores ≡ length v.cores
unfolding stretch
cores-stretch v from a zero = refl
cores-stretch v from a (suc n) =
    cores-slot (stretch v from a n).view (slot_at from v.numbers.speed (a + n)) ∙ cores-stretch v from a n

pub number-stretch : (v : View) (from a n : ℕ) → (stretch v from a n).view.numbers.number ≡ v.numbers.number
number-stretch v from a n = (run_stretch v from a n).number

pub speed-stretch : (v : View) (from a n : ℕ) → (stretch v from a n).view.numbers.speed ≡ v.numbers.speed
speed-stretch v from a n = (run_stretch v from a n).speed

-- a stretch numbers what it makes
pub numbered_stretch :
    (v : View) (from a n : ℕ) → v.numbers.posted + n < 2 ^ 64 → v.numbers.entered + n < 2 ^ 64 →
    IsNumbered v.numbers n (stretch v from a n)
numbered_stretch v from a n few_posts few_entries =
    let run = run_stretch v from a n in
    let made = stretch v from a n in
    let posts = run.posts few_posts in
    let entries = run.entries few_entries in
    let post_count = length-map made.posts (λ post. post.key) in
    let entry_count = length-map made.entries (λ entry. entry.key) in
    record {
      number = run.number;
      speed = run.speed;
      posted = omega (arith, posts.count, post_count);
      entered = omega (arith, entries.count, entry_count);
      few_posts = omega (arith, posts.few, post_count);
      few_entries = omega (arith, entries.few, entry_count);
      post_keys = posts.keys;
      entry_keys = entries.keys;
    }
