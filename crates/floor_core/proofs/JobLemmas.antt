-- Turns of a job, one after another.
use Rattle.std.proofs.Common.{◌≡◌, ◌∙◌, ℕ, ◌+◌, ◌≤◌, List, [], ◌∷◌, ◌++◌, length, take, drop, sym, ap, arith, Option}
use Rattle.std.proofs.Common.{append_assoc, length-drop, drop-drop, take-add}
use Rattle.std.proofs.lemmas.List.Elements.{filter_map-append}
use Rattle.dev_core.specs.declared.post.Post.{Post}
use Rattle.floor_core.specs.Job.{Job, left, posts, made, after, Adds}
use Rattle.floor_core.specs.Floor.{Board}
use Rattle.floor_core.specs.Events.{claimed, relieved, at_home}
use Rattle.floor_core.specs.Sound.{IsSound}

-- what some slots more make
pub made_more : {S : Type 0} (j : Job S) (a b : ℕ) → made j (a + b) ≡ made j a ++ posts (take b (drop a j.coming))
made_more j a b =
    ap (λ l. j.unsent ++ posts l) (take-add a b j.coming) ∙
    (ap (λ l. j.unsent ++ l) (filter_map-append (λ slot. slot) (take a j.coming) (take b (drop a j.coming))) ∙
    sym (append_assoc j.unsent (posts (take a j.coming)) (posts (take b (drop a j.coming)))))

module _ {S : Type 0} (state_after : S → List (Option Post) → ℕ → S) where
  -- two turns are one
  pub two_turns :
      Adds state_after → (j : Job S) (a b : ℕ) → a + b ≤ left j →
      after state_after (after state_after j a) b ≡ after state_after j (a + b)
  two_turns adds j a b enough = λ k. record {
    state = adds j.state j.coming a b enough k;
    coming = drop-drop b a j.coming k;
    unsent = sym (made_more j a b) k;
  }

  -- a board stays sound in a turn
  pub sound_claimed :
      Adds state_after → (start : Job S) (b : Board S) (mailed : List Post) (worker slots : ℕ) → slots ≤ left b.job →
      IsSound state_after start b mailed → IsSound state_after start (claimed state_after worker slots b) mailed
  sound_claimed adds start b mailed worker slots enough s =
      let state : b.job.state ≡ state_after start.state start.coming b.used = ap (λ (j : Job S). j.state) s.job in
      let coming : b.job.coming ≡ drop b.used start.coming = ap (λ (j : Job S). j.coming) s.job in
      let room : b.used + slots ≤ length start.coming =
      omega (
        arith,
        s.paid,
        enough,
        ap (λ (l : List (Option Post)). length l) coming,
        length-drop b.used
            start.coming,
      ) in
      let state_is : state_after b.job.state b.job.coming slots ≡ state_after start.state start.coming (b.used +
      slots) =
      (λ k. state_after (state k) (coming k) slots) ∙ adds start.state start.coming b.used slots room in
      let coming_is : drop slots b.job.coming ≡ drop (b.used + slots) start.coming =
      ap (λ (l : List (Option Post)). drop slots l) coming ∙ drop-drop slots b.used start.coming in
      let posts_are : mailed ++ (b.job.unsent ++ posts (take slots b.job.coming)) ≡ made start (b.used + slots) =
      sym (append_assoc mailed b.job.unsent (posts (take slots b.job.coming))) ∙
      ((λ k. s.posts k ++ posts (take slots (coming k))) ∙ sym (made_more start b.used slots)) in
      record {
        job = λ k. record { state = state_is k; coming = coming_is k; unsent = [] };
        paid = room;
        posts = posts_are;
      }

  -- and where its oldest unsent post goes into the mail
  pub sound_relieved :
      (start : Job S) (b : Board S) (mailed : List Post) (p : Post) → b.job.unsent ≡ p ∷ drop 1 b.job.unsent →
      IsSound state_after start b mailed → IsSound state_after start (relieved b) (mailed ++ p ∷ [])
  sound_relieved start b mailed p first s = record {
    job = s.job;
    paid = s.paid;
    posts =
        append_assoc mailed (p ∷ []) (drop 1 b.job.unsent) ∙ (ap (λ (l : List Post). mailed ++ l) (sym first) ∙
        s.posts);
  }

  pub sound_at_home :
      (start : Job S) (b : Board S) (mailed : List Post) →
      IsSound state_after start b mailed → IsSound state_after start (at_home b) mailed
  sound_at_home start b mailed s = record { job = s.job; paid = s.paid; posts = s.posts }

  -- the slots that are used and those that are left are all
  pub sound_left :
      (start : Job S) (b : Board S) (mailed : List Post) →
      IsSound state_after start b mailed → b.used + left b.job ≡ left start
  sound_left start b mailed s =
      let coming : b.job.coming ≡ drop b.used start.coming = ap (λ (j : Job S). j.coming) s.job in
      omega (arith, s.paid, ap (λ (l : List (Option Post)). length l) coming, length-drop b.used start.coming)
