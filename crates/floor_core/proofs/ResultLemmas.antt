-- What holds of a floor after any legal events, and after those that end the round.
use Rattle.std.proofs.Common.{◌≡◌, ◌∙◌, ℕ, zero, suc, ◌+◌, ◌<◌, ◌≤◌, List, [], ◌∷◌, ◌++◌, length, map}
use Rattle.std.proofs.Common.{refl, sym, ap, subst, arith, true, All, Option, Some, slice_get, append-nil}
use Rattle.std.proofs.lemmas.List.Elements.{All-nil, All-push, All-head, All-tail}
use Rattle.dev_core.specs.declared.post.Post as post
use Rattle.floor_core.specs.declared.event.Event.{Event}
use Rattle.floor_core.specs.declared.event.Event.TheVariants.{Claim, Post, Report, Close}
use Rattle.floor_core.specs.declared.event.Mailed.{Mailed}
use Rattle.floor_core.specs.Events.{IsLegal, MayPost, IsDone, happened}
use Rattle.floor_core.specs.Floor.{Board, Floor, begun, posted_by}
use Rattle.floor_core.specs.Job.{Job, left, made, aside, after, Adds, Rests}
use Rattle.floor_core.specs.Result.{IsOver, finished}
use Rattle.floor_core.specs.Run.{IsRun}
use Rattle.floor_core.specs.Sound.{IsSound, Sound}
use Rattle.floor_core.proofs.BoardLemmas.{some_and, first_of, within}
use Rattle.floor_core.proofs.JobLemmas.{sound_left}
use Rattle.floor_core.proofs.SoundLemmas.{sound_begun, sound_kept, oldest_is}

-- lists whose items are alike at each place are alike
pub same_map :
    {A B C : Type 0} (f : A → C) (g : B → C) (xs : List A) (ys : List B) → length xs ≡ length ys →
    ((i : ℕ) (x : A) (y : B) → slice_get xs i ≡ Some x → slice_get ys i ≡ Some y → f x ≡ g y) → map f xs ≡ map g ys
same_map f g [] [] long each = refl
same_map f g [] (y ∷ ys) long each = absurd (omega arith)
same_map f g (x ∷ xs) [] long each = absurd (omega arith)
same_map f g (x ∷ xs) (y ∷ ys) long each =
    let rest = same_map f g xs ys (omega arith) (λ i. each (suc i)) in
    let first = each 0 x y refl refl in
    λ k. first k ∷ rest k

-- what holds of each item holds of one that is there
pub All-there : {A : Type 0} (P : A → Type 0) (xs : List A) (i : ℕ) (x : A) → All P xs → slice_get xs i ≡ Some x → P x
All-there P [] i x all is = absurd (cc)
All-there P (y ∷ xs) zero x all is = let same : y ≡ x = cc in subst P same (All-head P y xs all)
All-there P (y ∷ xs) (suc i) x all is = All-there P xs i x (All-tail P y xs all) is

module _ {S : Type 0} (state_after : S → List (Option post.Post) → ℕ → S) where
  -- what holds of a floor after any legal events
  pub record Kept (starts : List (Job S)) (f : Floor S) : Type 0 where
    pub sound : Sound state_after starts f
    pub ends : f.is_ended ≡ true → All IsDone f.boards
    pub members : All (λ m. m.by.0 < length starts) f.mail

  kept_begun : Rests state_after → (starts : List (Job S)) → Kept starts (begun starts)
  kept_begun rests starts = record {
    sound = sound_begun state_after rests starts;
    ends = λ is. absurd (cc);
    members = All-nil (λ m. m.by.0 < length starts);
  }

  kept_step :
      Adds state_after → (starts : List (Job S)) (f : Floor S) (e : Event) →
      Kept starts f → IsLegal f e → Kept starts (happened state_after f e)
  kept_step adds starts f (Claim worker board slots) k legal = record {
    sound = sound_kept state_after adds starts f (Claim worker board slots) k.sound legal;
    ends = λ is. absurd (cc (is, legal.0));
    members = k.members;
  }
  kept_step adds starts f (Post worker board) k legal =
      let may = some_and (MayPost worker) (slice_get f.boards board.0) legal.1 in
      let first = first_of may.0.job.unsent may.2.1 in
      let sent = oldest_is f board may.0 first.0 may.1 (ap (λ (l : List post.Post). slice_get l 0) first.1) in
      let member : board.0 < length starts =
      subst (λ (n : ℕ). board.0 < n) k.sound.boards (within (MayPost worker) f.boards board.0 legal.1) in
      record {
        sound = sound_kept state_after adds starts f (Post worker board) k.sound legal;
        ends = λ is. absurd (cc (is, legal.0));
        members =
            subst (λ (l : List Mailed). All (λ m. m.by.0 < length starts) (f.mail ++ l)) (sym sent)
            (All-push (λ m. m.by.0 < length starts) f.mail (record { by = board; post = first.0 }) k.members member);
      }
  kept_step adds starts f (Report worker board) k legal = record {
    sound = sound_kept state_after adds starts f (Report worker board) k.sound legal;
    ends = λ is. absurd (cc (is, legal.0));
    members = k.members;
  }
  kept_step adds starts f Close k legal = record {
    sound = sound_kept state_after adds starts f Close k.sound legal;
    ends = λ is. legal.1;
    members = k.members;
  }

  kept_on :
      Adds state_after → (starts : List (Job S)) (f : Floor S) (events : List Event) (g : Floor S) →
      Kept starts f → IsRun state_after f events g → Kept starts g
  kept_on adds starts f [] g k run = subst (λ (h : Floor S). Kept starts h) (sym run) k
  kept_on adds starts f (e ∷ events) g k run =
      kept_on adds starts (happened state_after f e) events g (kept_step adds starts f e k run.0) run.1

  pub kept :
      Adds state_after → Rests state_after → (starts : List (Job S)) (events : List Event) (f : Floor S) →
      IsRun state_after (begun starts) events f → Kept starts f
  kept adds rests starts events f run = kept_on adds starts (begun starts) events f (kept_begun rests starts) run

  -- one event more
  pub run_more :
      (old : Floor S) (events : List Event) (mid : Floor S) (e : Event) (new : Floor S) →
      IsRun state_after old events mid → IsLegal mid e → new ≡ happened state_after mid e →
      IsRun state_after old (events ++ e ∷ []) new
  run_more old [] mid e new run legal is =
      (subst (λ (f : Floor S). IsLegal f e) run legal, is ∙ ap (λ (f : Floor S). happened state_after f e) run)
  run_more old (first ∷ events) mid e new run legal is =
      (run.0, run_more (happened state_after old first) events mid e new run.1 legal is)

  -- no board has used more than it began with
  pub paid :
      (starts : List (Job S)) (f : Floor S) → Kept starts f → (i : ℕ) (start : Job S) (b : Board S) →
      slice_get starts i ≡ Some start → slice_get f.boards i ≡ Some b →
      (b.used ≤ left start) × (b.used + left b.job ≡ left start)
  paid starts f k i start b is there =
      let s = k.sound.each i start b is there in
      (s.paid, sound_left state_after start b (posted_by i f.mail) s)

  -- a board that is done is finished, and its posts are in the mail
  done :
      (start : Job S) (b : Board S) (mailed : List post.Post) → IsSound state_after start b mailed → IsDone b →
      (b.job ≡ finished state_after start) × (mailed ≡ made start (left start))
  done start b mailed s is =
      let all : b.used ≡ left start =
      sym (omega (arith, is.1, sound_left state_after start b mailed s)) in
      let job : b.job ≡ aside b.job = λ k. record { state = b.job.state; coming = b.job.coming; unsent = is.2 k } in (
        job ∙ (s.job ∙ ap (λ (n : ℕ). aside (after state_after start n)) all),
        sym (append-nil mailed) ∙
            (ap (λ (l : List post.Post). mailed ++ l) (sym is.2) ∙ (s.posts ∙ ap (λ (n : ℕ). made start n) all)),
      )

  there_too : {A B : Type 0} (xs : List A) (ys : List B) (i : ℕ) (y : B) →
      length xs ≡ length ys → slice_get ys i ≡ Some y → (x : A) × (slice_get xs i ≡ Some x)
  there_too [] [] i y long is = absurd (cc)
  there_too [] (z ∷ ys) i y long is = absurd (omega arith)
  there_too (x ∷ xs) [] i y long is = absurd (cc)
  there_too (x ∷ xs) (z ∷ ys) zero y long is = (x, refl)
  there_too (x ∷ xs) (z ∷ ys) (suc i) y long is = there_too xs ys i y (omega arith) is

  -- a round that has ended
  pub over : (starts : List (Job S)) (f : Floor S) → Kept starts f → f.is_ended ≡ true → IsOver state_after starts f
  over starts f k ended =
      let all = k.ends ended in
      record {
        jobs =
            same_map (λ b. b.job) (finished state_after) f.boards starts k.sound.boards
            (λ i b start there is.
            (done start b (posted_by i f.mail) (k.sound.each i start b is there) (All-there IsDone f.boards i b all
            there)).0);
        posts = λ i start is.
            let b = there_too f.boards starts i start k.sound.boards is in
            (done start b.0 (posted_by i f.mail) (k.sound.each i start b.0 is b.1) (All-there IsDone f.boards i b.0
            all b.1)).1;
      }
