-- A floor is sound at every moment.
use Rattle.std.proofs.Common.{◌≡◌, ◌≢◌, ◌∙◌, ℕ, ◌≤◌, List, [], ◌∷◌, ◌++◌, length, map, filter, drop}
use Rattle.std.proofs.Common.{refl, sym, ap, subst, inl, inr, arith, ◌==◌, Option, Some}
use Rattle.std.proofs.Common.{slice_get, option_map, option_and_then, option_to_list, append-nil, eq-eqb, ne_eqb}
use Rattle.std.proofs.lemmas.List.{map-append, length-map}
use Rattle.std.proofs.lemmas.List.Elements.{filter-append}
use Rattle.std.proofs.lemmas.Option.{slice_get-map}
use Rattle.lab_num.specs.declared.number.BoardNo.{BoardNo}
use Rattle.dev_core.specs.declared.post.Post as post
use Rattle.floor_core.specs.declared.event.Event.{Event}
use Rattle.floor_core.specs.declared.event.Event.TheVariants.{Claim, Post, Report, Close}
use Rattle.floor_core.specs.declared.event.Mailed.{Mailed}
use Rattle.lab_num.specs.Change.{change_at}
use Rattle.lab_num.proofs.ListLemmas.{length-change}
use Rattle.floor_core.specs.Events.{IsLegal, MayClaim, MayPost, claimed, relieved, at_home, oldest, happened}
use Rattle.floor_core.specs.Floor.{Board, Floor, fresh, begun, posted_by}
use Rattle.floor_core.specs.Job.{Job, left, Adds, Rests}
use Rattle.floor_core.specs.Sound.{IsSound, Sound}
use Rattle.floor_core.proofs.BoardLemmas.{some_and, changed_get, first_of}
use Rattle.floor_core.proofs.JobLemmas.{sound_claimed, sound_relieved, sound_at_home}

-- what a board posted, after some posts more
pub posted_more : (i : ℕ) (xs ys : List Mailed) → posted_by i (xs ++ ys) ≡ posted_by i xs ++ posted_by i ys
posted_more i xs ys =
    ap (λ (l : List Mailed). map (λ m. m.post) l) (filter-append (λ m. m.by.0 == i) xs ys) ∙
    map-append (λ (m : Mailed). m.post) (filter (λ m. m.by.0 == i) xs) (filter (λ m. m.by.0 == i) ys)

pub posted_one : (i : ℕ) (m : Mailed) → m.by.0 ≡ i → posted_by i (m ∷ []) ≡ m.post ∷ []
posted_one i m is = rw (eq-eqb m.by.0 i is) refl

pub posted_none : (i : ℕ) (m : Mailed) → m.by.0 ≢ i → posted_by i (m ∷ []) ≡ []
posted_none i m apart = rw (ne_eqb m.by.0 i apart) refl

-- the oldest unsent post of a board
pub oldest_is :
    {S : Type 0} (f : Floor S) (board : BoardNo) (b : Board S) (p : post.Post) →
    slice_get f.boards board.0 ≡ Some b → slice_get b.job.unsent 0 ≡ Some p →
    oldest f board ≡ record { by = board; post = p } ∷ []
oldest_is {S} f board b p is first =
    let mail : Option post.Post →
    List Mailed = λ o. option_to_list (option_map (λ p. record { by = board; post = p }) o) in
    ap (λ (o : Option (Board S)). mail (option_and_then (λ b. slice_get b.job.unsent 0) o)) is ∙ ap mail first

module _ {S : Type 0} (state_after : S → List (Option post.Post) → ℕ → S) where
  sound_fresh : Rests state_after → (start : Job S) → IsSound state_after start (fresh start) []
  sound_fresh rests start = record {
    job = λ k. record { state = sym (rests start.state start.coming) k; coming = start.coming; unsent = [] };
    paid = omega arith;
    posts = sym (append-nil start.unsent);
  }

  -- a floor that begins is sound
  pub sound_begun : Rests state_after → (starts : List (Job S)) → Sound state_after starts (begun starts)
  sound_begun rests starts = record {
    boards = length-map starts fresh;
    each = λ i start b is there.
        let fresh_is : Some (fresh start) ≡ Some b =
        sym (slice_get-map fresh starts i ∙ ap (λ (o : Option (Job S)). option_map fresh o) is) ∙ there in
        let same : fresh start ≡ b = cc in
        subst (λ (b : Board S). IsSound state_after start b []) same (sound_fresh rests start);
  }

  -- where one board has changed and is sound, and of the others nothing came into the mail, all are sound
  sound_changed :
      (starts : List (Job S)) (f g : Floor S) (k : ℕ) (step : Board S → Board S) → Sound state_after starts f →
      g.boards ≡ change_at f.boards k step →
      ((i : ℕ) → i ≢ k → posted_by i g.mail ≡ posted_by i f.mail) →
      ((start : Job S) (b : Board S) → slice_get f.boards k ≡ Some b →
      IsSound state_after start b (posted_by k f.mail) →
      IsSound state_after start (step b) (posted_by k g.mail)) →
      Sound state_after starts g
  sound_changed starts f g k step s boards others this = record {
    boards = ap (λ (l : List (Board S)). length l) boards ∙ (length-change step f.boards k ∙ s.boards);
    each = λ i start b is there.
        elim (changed_get step f.boards k i b (ap (λ (l : List (Board S)). slice_get l i) (sym boards) ∙ there)) [
          | inl h ↦
              let old : slice_get f.boards k ≡ Some h.1 = ap (λ (j : ℕ). slice_get f.boards j) (sym h.0) ∙ h.2 in
              let mine : slice_get starts k ≡ Some start = ap (λ (j : ℕ). slice_get starts j) (sym h.0) ∙ is in
              let after_it : IsSound state_after start (step h.1) (posted_by k g.mail) =
              this start h.1 old (s.each k start h.1 mine old) in
              subst (λ (j : ℕ). IsSound state_after start b (posted_by j g.mail)) (sym h.0)
              (subst (λ (c : Board S). IsSound state_after start c (posted_by k g.mail)) (sym h.3) after_it)
          | inr h ↦
              subst (λ (l : List post.Post). IsSound state_after start b l) (sym (others i h.0)) (s.each i start b
              is h.1)
        ];
  }

  -- every legal event keeps a sound floor sound
  pub sound_kept :
      Adds state_after → (starts : List (Job S)) (f : Floor S) (e : Event) →
      Sound state_after starts f → IsLegal f e → Sound state_after starts (happened state_after f e)
  sound_kept adds starts f (Claim worker board slots) s legal =
      sound_changed starts f (happened state_after f (Claim worker board slots)) board.0 (claimed state_after worker
      slots) s
      refl
      (λ i apart. refl)
      (λ start b is sound.
      let may = some_and (MayClaim slots) (slice_get f.boards board.0) legal.1 in
      let same : may.0 ≡ b = cc (may.1, is) in
      sound_claimed state_after adds start b (posted_by board.0 f.mail) worker slots
      (subst (λ (c : Board S). slots ≤ left c.job) same may.2.2) sound)
  sound_kept adds starts f (Post worker board) s legal =
      let may = some_and (MayPost worker) (slice_get f.boards board.0) legal.1 in
      let first = first_of may.0.job.unsent may.2.1 in
      let m : Mailed = record { by = board; post = first.0 } in
      let sent : oldest f board ≡ m ∷ [] =
      oldest_is f board may.0 first.0 may.1 (ap (λ (l : List post.Post). slice_get l 0) first.1) in
      sound_changed starts f (happened state_after f (Post worker board)) board.0 relieved s
      refl
      (λ i apart.
      ap (λ (l : List Mailed). posted_by i (f.mail ++ l)) sent ∙
      (posted_more i f.mail (m ∷ []) ∙
      (ap (λ (l : List post.Post). posted_by i f.mail ++ l) (posted_none i m (λ h. apart (sym h))) ∙
      append-nil (posted_by i f.mail))))
      (λ start b is sound.
      let same : may.0 ≡ b = cc (may.1, is) in
      let mail : posted_by board.0 (f.mail ++ oldest f board) ≡ posted_by board.0 f.mail ++ first.0 ∷ [] =
      ap (λ (l : List Mailed). posted_by board.0 (f.mail ++ l)) sent ∙
      (posted_more board.0 f.mail (m ∷ []) ∙
      ap (λ (l : List post.Post). posted_by board.0 f.mail ++ l) (posted_one board.0 m refl)) in
      subst (λ (l : List post.Post). IsSound state_after start (relieved b) l) (sym mail)
      (sound_relieved state_after start b (posted_by board.0 f.mail) first.0
      (subst (λ (c : Board S). c.job.unsent ≡ first.0 ∷ drop 1 c.job.unsent) same first.1) sound))
  sound_kept adds starts f (Report worker board) s legal =
      sound_changed starts f (happened state_after f (Report worker board)) board.0 at_home s
      refl
      (λ i apart. refl)
      (λ start b is sound. sound_at_home state_after start b (posted_by board.0 f.mail) sound)
  sound_kept adds starts f Close s legal = record { boards = s.boards; each = s.each }
