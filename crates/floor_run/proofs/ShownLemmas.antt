-- The bench shows a floor, and its steps are the events of that floor.
use Rattle.std.proofs.Common.{◌≡◌, ◌≢◌, ◌↔◌, ◌∙◌, ◌⊎◌, inl, inr, ℕ, zero, suc, ◌+◌, ◌-◌, ◌*◌, ◌/◌, ◌%◌, ◌<◌, ◌≤◌, ◌==◌}
use Rattle.std.proofs.Common.{Bool, true, false, List, [], ◌∷◌, ◌++◌, length, min, map, All, get_or, set}
use Rattle.std.proofs.Common.{if◌then◌else◌, refl, sym, ap, subst, arith, add-one, zero-add, length-drop, append-nil}
use Rattle.std.proofs.Common.{get_or-set_other, get_or-set_same, eq-eqb, ne_eqb}
use Rattle.std.proofs.Common.{Option, Some, None, IsSomeAnd, slice_get, option_map, option_and_then, option_to_list}
use mathlib.Core.Option.{some, some-injective, some-ne-none}
use mathlib.Core.Logic.{dite}
use native.Mathlib.Decide.{ℕ_discrete}
use lib.ListN.{get_elem?}
use Rattle.std.specs.Int.Bits.{bit_or}
use Rattle.std.proofs.lemmas.List.{length-map}
use Rattle.std.proofs.lemmas.Option.{same_Some}
use Rattle.atomic_table.proofs.Lists.{at_map, at_longer, set_else, set_here}
use Rattle.dev_core.specs.declared.post.Post as post
use Rattle.floor_core.specs.declared.event.Event.{Event}
use Rattle.floor_core.specs.declared.event.Event.TheVariants.{Claim, Post, Report, Close}
use Rattle.floor_core.specs.declared.event.Mailed.{Mailed}
use Rattle.lab_num.specs.Change.{change_at}
use Rattle.floor_core.specs.Events.{IsLegal, MayClaim, MayPost, MayReport, IsDone, claimed, relieved, at_home}
use Rattle.floor_core.specs.Events.{oldest, happened}
use Rattle.floor_core.specs.Floor as floor
use Rattle.floor_core.specs.Floor.{Board, Floor, begun, posted_by}
use Rattle.floor_core.specs.Job.{Job, left, made, aside, after}
use Rattle.floor_core.specs.Sound.{IsSound, Sound}
use Rattle.floor_core.proofs.SoundLemmas.{posted_more}
use Rattle.floor_core.proofs.BoardLemmas.{changed_get}
use Rattle.floor_run.specs.declared.view.View.{View}
use Rattle.floor_run.specs.Rule.{Whereabouts, home, out, done, word_of, home_word, Tally, Table, Holds, InPlace, Rule}
use Rattle.floor_run.specs.Shown.{Shows, ShowsBoard, word, turn_slots, opened}
use Rattle.floor_run.specs.Shown.{after_won, after_missed, after_report, after_split, after_join}
use Rattle.floor_run.specs.Turns.{slots_left, paid, AfterTurns, IsTurned}
use Rattle.floor_run.specs.View.{spent, after_claim, empty_handed}
use Rattle.floor_run.proofs.OpenLemmas.{all_at, got, got_mapped}
use Rattle.floor_run.proofs.StepLemmas.{there, below, or_even, or_one, or_three, set_there}
use Rattle.floor_run.proofs.TurnLemmas.{TurnsAdd, PostsAdd, next}

-- the same item by either way of reading a list
read : {A : Type 0} (xs : List A) (i : ℕ) (x : A) → get_elem? xs i ≡ some x → slice_get xs i ≡ Some x
read [] i x e = absurd (some-ne-none x (sym e))
read (y ∷ xs) zero x e = ap Some (some-injective y x e)
read (y ∷ xs) (suc i) x e = read xs i x e

unread : {A : Type 0} (xs : List A) (i : ℕ) (x : A) → slice_get xs i ≡ Some x → get_elem? xs i ≡ some x
unread [] i x e = let bad : None ≡ Some x = e in absurd (cc)
unread (y ∷ xs) zero x e = ap some (same_Some y x e)
unread (y ∷ xs) (suc i) x e = unread xs i x e

-- after a change an item is the changed one, or one that was there
changed_at :
    {A : Type 0} (step : A → A) (xs : List A) (k i : ℕ) (y : A) → get_elem? (change_at xs k step) i ≡ some y →
    ((i ≡ k) × (x : A) × (get_elem? xs i ≡ some x) × (y ≡ step x)) ⊎ ((i ≢ k) × (get_elem? xs i ≡ some y))
changed_at step xs k i y is =
    elim (changed_get step xs k i y (read (change_at xs k step) i y is)) [
      | inl h ↦ inl (h.0, h.1, unread xs i h.1 h.2, h.3)
      | inr h ↦ inr (h.0, unread xs i y h.1)
    ]

unmapped :
    {A B : Type 0} (g : A → B) (xs : List A) (i : ℕ) (y : B) → get_elem? (map g xs) i ≡ some y →
    (x : A) × (get_elem? xs i ≡ some x) × (g x ≡ y)
unmapped g [] i y e = absurd (some-ne-none y (sym e))
unmapped g (x ∷ xs) zero y e = (x, refl, some-injective (g x) y e)
unmapped g (x ∷ xs) (suc i) y e = unmapped g xs i y e

-- what the word of a board at home says
home_word_says : (q : ℕ) (b : Bool) → let n = word_of q (if b then done else home) in
    (n / 4 ≡ q) × ((n % 4 ≡ 0) ⊎ (n % 4 ≡ 3))
home_word_says q true = (omega arith, inr (omega arith))
home_word_says q false = (omega arith, inl (omega arith))

-- a post in the mail
abbrev letter : ℕ → post.Post → Mailed
letter i p = record { by = record { 0 = i }; post = p }

posted_own : (i : ℕ) (ps : List post.Post) → posted_by i (map (letter i) ps) ≡ ps
posted_own i [] = refl
posted_own i (p ∷ ps) = rw (eq-eqb i i refl) (ap (λ l. p ∷ l) (posted_own i ps))

posted_else : (i j : ℕ) (ps : List post.Post) → i ≢ j → posted_by j (map (letter i) ps) ≡ []
posted_else i j [] apart = refl
posted_else i j (p ∷ ps) apart = rw (ne_eqb i j apart) (posted_else i j ps apart)

-- a post of one board leaves what the others have posted
oldest_else :
    (i j : ℕ) (first : Option post.Post) → i ≢ j → posted_by j (option_to_list (option_map (letter i) first)) ≡ []
oldest_else i j None apart = refl
oldest_else i j (Some p) apart = posted_else i j (p ∷ []) apart

-- the seat that a board is out with
abbrev seat_of : Tally → ℕ
seat_of (q, home) = 0
seat_of (q, out seat) = seat
seat_of (q, done) = 0

module _ {J : Type 0} where
  -- a seat that holds a board other than that of the seat which steps holds it after
  still_holds :
      (views : List (View J)) (seat : ℕ) (v w : View J) (j k : ℕ) → get_elem? views seat ≡ some v →
      ((job : J) → v.held ≡ Some job → ¬ (v.board ≡ j)) → Holds views j k → Holds (set views seat w) j k
  still_holds views seat v w j k at other h = dite (ℕ_discrete k seat)
      (λ e. let is : h.0 ≡ v = some-injective h.0 v (sym h.2 ∙ (ap (get_elem? views) e ∙ at)) in
      absurd (other h.1 (ap (λ (x : View J). x.held) (sym is) ∙ h.3) (ap (λ (x : View J). x.board) (sym is) ∙ h.4)))
      (λ n. (h.0, h.1, set_else views seat k w n ∙ h.2, h.3, h.4))

  unheld : (v : View J) (j : ℕ) → v.held ≡ None → (job : J) → v.held ≡ Some job → ¬ (v.board ≡ j)
  unheld v j empty job h e = let bad : None ≡ Some job = sym empty ∙ h in absurd (cc)

module _ {J S : Type 0} (meaning : J → Job S) (sent : J → List post.Post)
    (state_after : S → List (Option post.Post) → ℕ → S) where
  abbrev L : J → ℕ
  L = slots_left meaning

  abbrev At : J → ℕ → J → Type 0
  At = AfterTurns meaning sent state_after

  abbrev Shown : Table J → J → ℕ → Board S → List post.Post → Type 0
  Shown = ShowsBoard meaning sent

  abbrev Floors : List J → Table J → Floor S → Type 0
  Floors = Shows meaning sent state_after

  -- what the law `floors_stay_sound` of floor_core says
  abbrev StaysSound : Type 0
  StaysSound = (starts : List (Job S)) (f : Floor S) (e : Event) → Sound state_after starts f → IsLegal f e →
      Sound state_after starts (happened state_after f e)

  -- a board whose word and cell stay, and whose holder goes on holding it, is shown as before
  stays :
      (s s' : Table J) (start : J) (j : ℕ) (b : Board S) (posted : List post.Post) → word s' j ≡ word s j →
      get_elem? s'.homes j ≡ get_elem? s.homes j → ((k : ℕ) → Holds s.views j k → Holds s'.views j k) →
      Shown s start j b posted → Shown s' start j b posted
  stays s s' start j b posted same cell holder (inl h) = inl record {
    word_is = subst (λ (n : ℕ). (n % 4 ≡ 0) ⊎ (n % 4 ≡ 3)) (sym same) h.word_is;
    worker = h.worker;
    used = h.used ∙ ap (λ (n : ℕ). paid meaning start (n / 4)) (sym same);
    all_sent = h.all_sent;
    job = (h.job.0, cell ∙ h.job.1, h.job.2, h.job.3);
  }
  stays s s' start j b posted same cell holder (inr h) = inr record {
    word_is = subst (λ (n : ℕ). n % 4 ≡ 1) (sym same) h.word_is;
    used = h.used ∙ ap (λ (n : ℕ). paid meaning start (n / 4 + 1)) (sym same);
    worker = (h.worker.0, h.worker.1, holder h.worker.0 h.worker.2);
  }

  module _ (starts : List J) (s : Table J) (f : Floor S) (shows : Floors starts s f) where
    wide : length f.boards ≡ length starts
    wide = shows.sound.boards ∙ length-map starts meaning

    -- the board of the floor that is shown
    board_at : (i : ℕ) (start : J) → get_elem? starts i ≡ some start → (b : Board S) × (get_elem? f.boards i ≡ some b)
    board_at i start has =
        let near : i < length f.boards = omega (arith, below starts i start has, wide) in
        there f.boards i near

    sound_at :
        (i : ℕ) (start : J) (b : Board S) → get_elem? starts i ≡ some start → get_elem? f.boards i ≡ some b →
        IsSound state_after (meaning start) b (posted_by i f.mail)
    sound_at i start b has at =
        shows.sound.each i (meaning start) b
        (read (map meaning starts) i (meaning start) (at_map meaning starts i start has)) (read f.boards i b at)

    -- one board has changed
    one_changed :
        (s' : Table J) (step : Board S → Board S) (i : ℕ) (start : J) (b : Board S) →
        get_elem? starts i ≡ some start → get_elem? f.boards i ≡ some b →
        Shown s' start i (step b) (posted_by i f.mail) →
        ((j : ℕ) (other : J) (c : Board S) → j ≢ i → get_elem? starts j ≡ some other →
        Shown s other j c (posted_by j f.mail) → Shown s' other j c (posted_by j f.mail)) →
        Sound state_after (map meaning starts) (record f { boards = change_at f.boards i step }) →
        Floors starts s' (record f { boards = change_at f.boards i step })
    one_changed s' step i start b has at new others sound = record {
      sound = sound;
      each = λ j other c e e'. elim (changed_at step f.boards i j c e') [
        | inl h ↦ subst (λ (z : J × ℕ × Board S). Shown s' z.0 z.1 z.2 (posted_by z.1 f.mail))
            (λ t. (
              some-injective start other (sym has ∙ (ap (get_elem? starts) (sym h.0) ∙ e)) t,
              sym h.0 t,
              (ap step (some-injective b h.1 (sym at ∙ (ap (get_elem? f.boards) (sym h.0) ∙ h.2))) ∙ sym h.3) t,
            )) new
        | inr h ↦ others j other c h.0 e (shows.each j other c e h.1)
      ];
      goes_on = shows.goes_on;
    }

    -- no board has changed
    none_changed :
        (s' : Table J) → ((j : ℕ) (other : J) (c : Board S) → get_elem? starts j ≡ some other →
        Shown s other j c (posted_by j f.mail) → Shown s' other j c (posted_by j f.mail)) →
        Floors starts s' f
    none_changed s' others = record {
      sound = shows.sound;
      each = λ j other c e e'. others j other c e (shows.each j other c e e');
      goes_on = shows.goes_on;
    }

    pub split : (v : View J) → Floors starts (after_split s v) f
    split v = none_changed (after_split s v) (λ j other c e.
        stays s (after_split s v) other j c (posted_by j f.mail) refl refl
        (λ k h. (h.0, h.1, at_longer s.views (empty_handed v ∷ []) k h.0 h.2, h.3, h.4)))

    pub joined :
        (other : ℕ) (w : View J) → get_elem? s.views other ≡ some w → w.held ≡ None →
        Floors starts (after_join s other) f
    joined other w at empty = none_changed (after_join s other) (λ j start c e.
        stays s (after_join s other) start j c (posted_by j f.mail) refl refl
        (λ k h. still_holds s.views other w spent j k at (unheld w j empty) h))

    pub posted :
        StaysSound → (seat i : ℕ) → IsLegal f (Post seat (record { 0 = i })) →
        Floors starts s (happened state_after f (Post seat (record { 0 = i })))
    posted stays_sound seat i legal = record {
      sound = stays_sound (map meaning starts) f (Post seat (record { 0 = i })) shows.sound legal;
      each = λ j start c e e'. elim (changed_at relieved f.boards i j c e') [
        | inl h ↦
            let may : MayPost seat h.1 = subst (λ o. IsSomeAnd o (MayPost seat))
            (ap (slice_get f.boards) (sym h.0) ∙ read f.boards j h.1 h.2) legal.1 in
            subst (λ (z : Board S). Shown s start j z (posted_by j (f.mail ++ oldest f (record { 0 = i })))) (sym h.3)
            (elim (shows.each j start h.1 e h.2) [
              | inl p ↦ absurd (may.1 p.all_sent)
              | inr p ↦ inr record { word_is = p.word_is; used = p.used; worker = p.worker }
            ])
        | inr h ↦
            let first : Option post.Post = option_and_then (λ b. slice_get b.job.unsent 0) (slice_get f.boards i) in
            subst (λ (l : List post.Post). Shown s start j c l)
            (sym (posted_more j f.mail (oldest f (record { 0 = i })) ∙
            (ap (λ (l : List post.Post). posted_by j f.mail ++ l) (oldest_else i j first (λ same. h.0 (sym same))) ∙
            append-nil (posted_by j f.mail)))) (shows.each j start c e h.1)
      ];
      goes_on = shows.goes_on;
    }

    module _ (r : Rule L At starts s) where
      roomy : (i : ℕ) (start : J) → get_elem? starts i ≡ some start → i + 1 < length s.words
      roomy i start has = let a = below starts i start has in let b = r.wide in omega arith

      -- a word whose bit 0 is 0 is that of a board at home with slots left
      even_word :
          (start : J) (i q : ℕ) (place : Whereabouts) → word s i ≡ word_of q place →
          InPlace L At s.homes s.views start i q place →
          word s i % 2 ≡ 0 → (word s i ≡ 4 * (word s i / 4)) × (4096 * (word s i / 4) < L start)
      even_word start i q home shown p even =
          let quarter : q ≡ word s i / 4 = omega arith in
          (omega arith, subst (λ (k : ℕ). 4096 * k < L start) quarter p.0)
      even_word start i q (out seat) shown p even = absurd (omega arith)
      even_word start i q done shown p even = absurd (omega arith)

      -- and one whose bit 0 is 1 keeps it at a claim
      odd_word :
          (start : J) (i q : ℕ) (place : Whereabouts) → word s i ≡ word_of q place → word s i % 2 ≡ 1 →
          bit_or (word s i) 1 ≡ word s i
      odd_word start i q home shown odd = absurd (omega arith)
      odd_word start i q (out seat) shown odd = ap (λ (n : ℕ). bit_or n 1) shown ∙ (or_one q ∙ sym shown)
      odd_word start i q done shown odd = ap (λ (n : ℕ). bit_or n 1) shown ∙ (or_three q ∙ sym shown)

      pub missed :
          (seat i : ℕ) (v : View J) (start : J) → get_elem? starts i ≡ some start → get_elem? s.views seat ≡ some v →
          v.held ≡ None → word s i % 2 ≡ 1 → Floors starts (after_missed s seat v i) f
      missed seat i v start has at empty odd =
          let ok = r.each_board i start has in
          let same = odd_word start i (r.tallies i).0 (r.tallies i).1 ok.shows odd in
          none_changed (after_missed s seat v i) (λ j other c e.
          stays s (after_missed s seat v i) other j c (posted_by j f.mail)
          (dite (ℕ_discrete j i)
          (λ e'. ap (λ (n : ℕ). get_or (set s.words (i + 1) (bit_or (word s i) 1)) (n + 1) 0) e' ∙
          (get_or-set_same s.words (i + 1) (bit_or (word s i) 1) 0 (roomy i start has) ∙ (same ∙ ap (word s) (sym e'))))
          (λ n. get_or-set_other s.words (i + 1) (j + 1) (bit_or (word s i) 1) 0 (λ e'. n (omega arith))))
          refl
          (λ k h. still_holds s.views seat v (after_claim v i (word s i) None) j k at (unheld v j empty) h))

      module _ (turns : TurnsAdd state_after) where
        pub won :
            StaysSound → (seat i : ℕ) (v : View J) (start job : J) → get_elem? starts i ≡ some start →
            get_elem? s.views seat ≡ some v →
            v.held ≡ None → word s i % 2 ≡ 0 → get_elem? s.homes i ≡ some (some (Some job)) →
            IsLegal f (Claim seat (record { 0 = i }) (turn_slots meaning job)) ×
            Floors starts (after_won s seat v i job)
            (happened state_after f (Claim seat (record { 0 = i }) (turn_slots meaning job)))
        won stays_sound seat i v start job has at empty even lies =
            let ok = r.each_board i start has in
            let says = even_word start i (r.tallies i).0 (r.tallies i).1 ok.shows ok.stands even in
            let found = board_at i start has in
            let b : Board S = found.0 in
            let sound = sound_at i start b has found.1 in
            elim (shows.each i start b has found.1) [
              | inr p ↦ absurd (let w = p.word_is in omega arith)
              | inl p ↦
                  let lay : J = p.job.0 in
                  let same : lay ≡ job = same_Some lay job
                  (some-injective (Some lay) (Some job)
                  (some-injective (some (Some lay)) (some (Some job)) (sym p.job.1 ∙ lies))) in
                  let is : meaning job ≡ b.job = ap meaning (sym same) ∙ p.job.2 in
                  let turn : ℕ = turn_slots meaning job in
                  let n : ℕ = L start in
                  let m : ℕ = L job in
                  let q : ℕ = word s i / 4 in
                  let used_is : b.used ≡ min n (4096 * q) = p.used in
                  let more : 4096 * q < n = says.1 in
                  let coming = ap (λ (j : Job S). length j.coming) sound.job ∙
                  length-drop b.used (meaning start).coming in
                  let enough : left b.job ≡ m = ap (λ (j : Job S). left j) (sym is) in
                  let rest : m ≡ n - b.used = sym enough ∙ coming in
                  let both : b.used + turn ≡ paid meaning start (q + 1) = omega arith in
                  let s' : Table J = after_won s seat v i job in
                  let new_word : word s' i ≡ 4 * q + 1 =
                  get_or-set_same s.words (i + 1) (bit_or (word s i) 1) 0 (roomy i start has) ∙
                  (ap (λ (k : ℕ). bit_or k 1) says.0 ∙ or_even q) in
                  let quarter : word s' i / 4 ≡ q = omega arith in
                  let legal : IsLegal f (Claim seat (record { 0 = i }) turn) = (
                    shows.goes_on,
                    subst (λ o. IsSomeAnd o (MayClaim turn)) (sym (read f.boards i b found.1))
                        (p.worker, omega arith, omega arith),
                  ) in (
                    legal,
                    one_changed s' (claimed state_after seat turn) i start b has found.1
                        (inr record {
                          word_is = omega arith;
                          used = both ∙ ap (λ (k : ℕ). paid meaning start (k + 1)) (sym quarter);
                          worker = (
                            seat,
                            refl,
                            (
                              after_claim v i (word s i) (Some job),
                              job,
                              set_there s.views seat v (after_claim v i (word s i) (Some job)) at,
                              refl,
                              refl,
                            ),
                          );
                        })
                        (λ j other c apart e. stays s s' other j c (posted_by j f.mail)
                        (get_or-set_other s.words (i + 1) (j + 1) (bit_or (word s i) 1) 0 (λ e'. apart (omega arith)))
                        (set_else s.homes i j _ apart)
                        (λ k h. still_holds s.views seat v (after_claim v i (word s i) (Some job)) j k at
                        (unheld v j empty) h))
                        (stays_sound (map meaning starts) f (Claim seat (record { 0 = i }) turn) shows.sound legal),
                  )
            ]

        pub reported :
            PostsAdd state_after → StaysSound → (seat : ℕ) (v : View J) (start claim job : J) (b : Board S) →
            get_elem? starts v.board ≡ some start → get_elem? s.views seat ≡ some v → v.held ≡ Some claim →
            IsTurned meaning sent state_after claim job → get_elem? f.boards v.board ≡ some b → b.job.unsent ≡ [] →
            IsLegal f (Report seat (record { 0 = v.board })) ×
            Floors starts (after_report s seat v v.board (home_word L (v.found / 4 + 1) job) job)
            (happened state_after f (Report seat (record { 0 = v.board })))
        reported more stays_sound seat v start claim job b has at held turned found none_left =
            let i : ℕ = v.board in
            let q : ℕ = v.found / 4 in
            let mine = (r.each_view seat v at).claimed claim held in
            let ok = r.each_board i start has in
            let word_is : word s i ≡ 4 * q + 1 = ok.shows ∙ ap (λ (c : Tally). word_of c.0 c.1) mine.0 in
            let sound = sound_at i start b has found in
            elim (shows.each i start b has found) [
              | inl p ↦ absurd (elim p.word_is [ inl w ↦ omega arith | inr w ↦ omega arith ])
              | inr p ↦
                  let h = p.worker.2 in
                  let theirs = (r.each_view p.worker.0 h.0 h.2).claimed h.1 h.3 in
                  let same : p.worker.0 ≡ seat =
                  ap seat_of (sym theirs.0 ∙ (ap r.tallies h.4 ∙ mine.0)) in
                  let new : ℕ = home_word L (q + 1) job in
                  let s' : Table J = after_report s seat v i new job in
                  let says = home_word_says (q + 1) (L job == 0) in
                  let new_word : word s' i ≡ new = get_or-set_same s.words (i + 1) new 0 (roomy i start has) in
                  let near = below starts i start has in
                  let wide = r.roomy in
                  let from : J = mine.2.0 in
                  let is_start : from ≡ start = some-injective from start (sym mine.2.1 ∙ has) in
                  let after_is : At start (q + 1) job =
                  next meaning sent state_after turns more start claim job q
                  (subst (λ (x : J). At x q claim) is_start mine.2.2) turned in
                  let used_is : b.used ≡ paid meaning start (q + 1) =
                  p.used ∙ ap (λ (k : ℕ). paid meaning start (k + 1)) (let e : word s i / 4 ≡ q = omega arith in e) in
                  let posted : List post.Post = posted_by i f.mail in
                  let made_is : made (meaning start) (paid meaning start (q + 1)) ≡ posted =
                  ap (made (meaning start)) (sym used_is) ∙
                  (sym sound.posts ∙ (ap (λ l. posted ++ l) none_left ∙ append-nil posted)) in
                  let legal : IsLegal f (Report seat (record { 0 = i })) = (
                    shows.goes_on,
                    subst (λ o. IsSomeAnd o (MayReport seat)) (sym (read f.boards i b found))
                        (p.worker.1 ∙ ap Some same, none_left),
                  ) in (
                    legal,
                    one_changed s' at_home i start b has found
                        (inl record {
                          word_is = subst (λ (k : ℕ). (k % 4 ≡ 0) ⊎ (k % 4 ≡ 3)) (sym new_word) says.1;
                          worker = refl;
                          used =
                              used_is ∙
                              ap (λ (k : ℕ). paid meaning start k) (sym (ap (λ (k : ℕ). k / 4) new_word ∙ says.0));
                          all_sent = none_left;
                          job = (
                            job,
                            set_here s.homes i (some (Some job)) (omega arith),
                            after_is.job_is ∙
                                (ap (λ (k : ℕ). aside (after state_after (meaning start) k)) (sym used_is) ∙
                                (sym sound.job ∙
                                (λ k. record {
                                  state = b.job.state;
                                  coming = b.job.coming;
                                  unsent = sym none_left k;
                                }))),
                            after_is.sent_is ∙ ap (λ l. sent start ++ l) made_is,
                          );
                        })
                        (λ j other c apart e. stays s s' other j c (posted_by j f.mail)
                        (get_or-set_other s.words (i + 1) (j + 1) new 0 (λ e'. apart (omega arith)))
                        (set_else s.homes i j _ apart)
                        (λ k h'. still_holds s.views seat v (empty_handed v) j k at (λ x y z. apart (sym z)) h'))
                        (stays_sound (map meaning starts) f (Report seat (record { 0 = i })) shows.sound legal),
                  )
            ]

      -- the word of a board at home without slots left
      paid_up :
          (start : J) (i q : ℕ) (place : Whereabouts) → word s i ≡ word_of q place →
          InPlace L At s.homes s.views start i q place → word s i % 4 ≡ 3 → L start ≤ 4096 * (word s i / 4)
      paid_up start i q home shown p three = absurd (omega arith)
      paid_up start i q (out seat) shown p three = absurd (omega arith)
      paid_up start i q done shown p three =
          let quarter : q ≡ word s i / 4 = omega arith in subst (λ (k : ℕ). L start ≤ 4096 * k) quarter p.0

      -- how many slots are left of a job on the floor
      left_is :
          (i : ℕ) (start : J) (b : Board S) → get_elem? starts i ≡ some start → get_elem? f.boards i ≡ some b →
          left b.job ≡ L start - b.used
      left_is i start b has at =
          ap (λ (j : Job S). length j.coming) (sound_at i start b has at).job ∙
          length-drop b.used (meaning start).coming

      done_at :
          (i : ℕ) (start : J) (b : Board S) → get_elem? starts i ≡ some start → get_elem? f.boards i ≡ some b →
          word s i % 4 ≡ 3 → IsDone b
      done_at i start b has at three =
          let ok = r.each_board i start has in
          let n : ℕ = L start in
          let rest = left_is i start b has at in
          let full : n ≤ 4096 * (word s i / 4) =
          paid_up start i (r.tallies i).0 (r.tallies i).1 ok.shows ok.stands three in
          elim (shows.each i start b has at) [
            | inl p ↦
                let used_is : b.used ≡ min n (4096 * (word s i / 4)) = p.used in
                (p.worker, omega arith, p.all_sent)
            | inr p ↦ absurd (let w = p.word_is in omega arith)
          ]

      three_at :
          (i : ℕ) (start : J) (b : Board S) → get_elem? starts i ≡ some start → get_elem? f.boards i ≡ some b →
          IsDone b → word s i % 4 ≡ 3
      three_at i start b has at is_done = elim (shows.each i start b has at) [
        | inl p ↦ elim p.word_is [
          | inl zero_is ↦
              let ok = r.each_board i start has in
              let n : ℕ = L start in
              let says = even_word start i (r.tallies i).0 (r.tallies i).1 ok.shows ok.stands (omega arith) in
              let used_is : b.used ≡ min n (4096 * (word s i / 4)) = p.used in
              let rest = left_is i start b has at in
              let nothing : left b.job ≡ 0 = is_done.1 in
              absurd (let more = says.1 in omega arith)
          | inr three ↦ three
        ]
        | inr p ↦ let bad : None ≡ Some p.worker.0 = sym is_done.0 ∙ p.worker.1 in absurd (cc)
      ]

      pub closed : IsLegal f Close ↔ ((i : ℕ) → i < length starts → word s i % 4 ≡ 3)
      closed = (
        (λ legal i near.
            let start = there starts i near in
            let b = board_at i start.0 start.1 in
            three_at i start.0 b.0 start.1 b.1 (all_at IsDone f.boards i b.0 legal.1 b.1)),
        (λ all. (
          shows.goes_on,
          λ i d near.
              let inside : i < length starts = omega (arith, wide) in
              let start = there starts i inside in
              let b = board_at i start.0 start.1 in
              subst IsDone (sym (got f.boards i b.0 d b.1)) (done_at i start.0 b.0 start.1 b.1 (all i inside)),
        )),
      )

  -- a board with so many reports in this place, where all that it has made was sent
  abbrev seated : J → ℕ → Option ℕ → Board S
  seated start used worker =
      record { job = aside (after state_after (meaning start) used); worker = worker; used = used }

  abbrev board_of : J → Tally → Board S
  board_of start (q, home) = seated start (paid meaning start q) None
  board_of start (q, out seat) = seated start (paid meaning start (q + 1)) (Some seat)
  board_of start (q, done) = seated start (paid meaning start q) None

  is_sound :
      (start : J) (c : Tally) → IsSound state_after (meaning start) (board_of start c)
      (made (meaning start) (board_of start c).used)
  is_sound start (q, home) = record { job = refl; paid = omega arith; posts = append-nil _ }
  is_sound start (q, out seat) = record { job = refl; paid = omega arith; posts = append-nil _ }
  is_sound start (q, done) = record { job = refl; paid = omega arith; posts = append-nil _ }

  is_shown :
      (s : Table J) (start : J) (i q : ℕ) (place : Whereabouts) → word s i ≡ word_of q place →
      InPlace L At s.homes s.views start i q place →
      Shown s start i (board_of start (q, place)) (made (meaning start) (board_of start (q, place)).used)
  is_shown s start i q home shown p =
      let quarter : q ≡ word s i / 4 = omega arith in
      inl record {
        word_is = inl (omega arith);
        worker = refl;
        used = ap (paid meaning start) quarter;
        all_sent = refl;
        job = (p.1.0, p.1.1, p.1.2.job_is, p.1.2.sent_is);
      }
  is_shown s start i q (out seat) shown p =
      let quarter : q ≡ word s i / 4 = omega arith in
      inr record {
        word_is = omega arith;
        used = ap (λ (k : ℕ). paid meaning start (k + 1)) quarter;
        worker = (seat, refl, p.1);
      }
  is_shown s start i q done shown p =
      let quarter : q ≡ word s i / 4 = omega arith in
      inl record {
        word_is = inr (omega arith);
        worker = refl;
        used = ap (paid meaning start) quarter;
        all_sent = refl;
        job = (p.1.0, p.1.1, p.1.2.job_is, p.1.2.sent_is);
      }

  -- the boards from number n on, and a mail that has all that each of them has made
  abbrev boards_of : (ℕ → Tally) → ℕ → List J → List (Board S)
  boards_of tallies n [] = []
  boards_of tallies n (x ∷ xs) = board_of x (tallies n) ∷ boards_of tallies (suc n) xs

  abbrev made_at : (ℕ → Tally) → ℕ → J → List post.Post
  made_at tallies n x = made (meaning x) (board_of x (tallies n)).used

  abbrev mail_of : (ℕ → Tally) → ℕ → List J → List Mailed
  mail_of tallies n [] = []
  mail_of tallies n (x ∷ xs) = map (letter n) (made_at tallies n x) ++ mail_of tallies (suc n) xs

  as_many : (tallies : ℕ → Tally) (n : ℕ) (xs : List J) → length (boards_of tallies n xs) ≡ length xs
  as_many tallies n [] = refl
  as_many tallies n (x ∷ xs) = ap suc (as_many tallies (suc n) xs)

  is_at :
      (tallies : ℕ → Tally) (n : ℕ) (xs : List J) (i : ℕ) (x : J) → get_elem? xs i ≡ some x →
      get_elem? (boards_of tallies n xs) i ≡ some (board_of x (tallies (n + i)))
  is_at tallies n [] i x e = absurd (some-ne-none x (sym e))
  is_at tallies n (y ∷ xs) zero x e =
      let here : n ≡ n + 0 = omega arith in
      λ t. some (board_of (some-injective y x e t) (tallies (here t)))
  is_at tallies n (y ∷ xs) (suc i) x e =
      let there_is : suc n + i ≡ n + suc i = omega arith in
      is_at tallies (suc n) xs i x e ∙ ap (λ (k : ℕ). some (board_of x (tallies k))) there_is

  none_before : (tallies : ℕ → Tally) (n m : ℕ) (xs : List J) → m < n → posted_by m (mail_of tallies n xs) ≡ []
  none_before tallies n m [] less = refl
  none_before tallies n m (x ∷ xs) less =
      posted_more m (map (letter n) (made_at tallies n x)) (mail_of tallies (suc n) xs) ∙
      (λ t. posted_else n m (made_at tallies n x) (λ same. omega arith) t ++
      none_before tallies (suc n) m xs (omega arith) t)

  mailed_at :
      (tallies : ℕ → Tally) (n : ℕ) (xs : List J) (i : ℕ) (x : J) → get_elem? xs i ≡ some x →
      posted_by (n + i) (mail_of tallies n xs) ≡ made_at tallies (n + i) x
  mailed_at tallies n [] i x e = absurd (some-ne-none x (sym e))
  mailed_at tallies n (y ∷ xs) zero x e =
      let here : n + 0 ≡ n = omega arith in
      let P : ℕ → Type 0 = λ k. posted_by k (mail_of tallies n (y ∷ xs)) ≡ made_at tallies k x in
      subst P (sym here)
      (posted_more n (map (letter n) (made_at tallies n y)) (mail_of tallies (suc n) xs) ∙
      ((λ t. posted_own n (made_at tallies n y) t ++ none_before tallies (suc n) n xs (omega arith) t) ∙
      (append-nil (made_at tallies n y) ∙ ap (made_at tallies n) (some-injective y x e))))
  mailed_at tallies n (y ∷ xs) (suc i) x e =
      let there_is : suc n + i ≡ n + suc i = omega arith in
      let P : ℕ → Type 0 = λ k. posted_by k (mail_of tallies n (y ∷ xs)) ≡ made_at tallies k x in
      subst P there_is
      (posted_more (suc n + i) (map (letter n) (made_at tallies n y)) (mail_of tallies (suc n) xs) ∙
      ((λ t. posted_else n (suc n + i) (made_at tallies n y) (λ same. omega arith) t ++
      mailed_at tallies (suc n) xs i x e t)))

  pub shown : (starts : List J) (s : Table J) → Rule L At starts s → (f : Floor S) × Floors starts s f
  shown starts s r = (
    record { boards = boards_of r.tallies 0 starts; mail = mail_of r.tallies 0 starts; is_ended = false },
    record {
      sound = record {
        boards = as_many r.tallies 0 starts ∙ sym (length-map starts meaning);
        each = λ i start b e e'.
            let x = unmapped meaning starts i start (unread (map meaning starts) i start e) in
            let is : b ≡ board_of x.0 (r.tallies i) = board_is i x.0 b x.1 (unread _ i b e') in
            subst (λ (z : Job S × Board S × List post.Post). IsSound state_after z.0 z.1 z.2)
            (λ t. (x.2 t, sym is t, sym (mail_is i x.0 x.1) t)) (is_sound x.0 (r.tallies i));
      };
      each = λ i start b e e'.
          let ok = r.each_board i start e in
          subst (λ (z : Board S × List post.Post). Shown s start i z.0 z.1)
          (λ t. (sym (board_is i start b e e') t, sym (mail_is i start e) t))
          (is_shown s start i (r.tallies i).0 (r.tallies i).1 ok.shows ok.stands);
      goes_on = refl;
    },
  )
    where
      board_is :
          (i : ℕ) (x : J) (b : Board S) → get_elem? starts i ≡ some x →
          get_elem? (boards_of r.tallies 0 starts) i ≡ some b → b ≡ board_of x (r.tallies i)
      board_is i x b e e' =
          some-injective b (board_of x (r.tallies i))
          (sym e' ∙ (is_at r.tallies 0 starts i x e ∙ ap (λ (k : ℕ). some (board_of x (r.tallies k))) (zero-add i)))

      mail_is :
          (i : ℕ) (x : J) → get_elem? starts i ≡ some x →
          posted_by i (mail_of r.tallies 0 starts) ≡ made_at r.tallies i x
      mail_is i x e =
          let P : ℕ → Type 0 = λ k. posted_by k (mail_of r.tallies 0 starts) ≡ made_at r.tallies k x in
          subst P (zero-add i) (mailed_at r.tallies 0 starts i x e)

  -- as a round begins
  pub opens :
      (starts : List J) → Sound state_after (map meaning starts) (begun (map meaning starts)) →
      All (λ job. (meaning job).unsent ≡ []) starts →
      Floors starts (opened meaning starts) (begun (map meaning starts))
  opens starts sound clean = record {
    sound = sound;
    each = λ i start b e e'.
        let here : get_elem? (map floor.fresh (map meaning starts)) i ≡ some (floor.fresh (meaning start)) =
        at_map floor.fresh (map meaning starts) i (meaning start) (at_map meaning starts i start e) in
        let s : Table J = opened meaning starts in
        let word_is : word s i ≡ home_word L 0 start =
        rw add-one (got_mapped (home_word L 0) starts i start e) in
        let says = home_word_says 0 (L start == 0) in
        let none_paid : 0 ≡ paid meaning start (word s i / 4) =
        let zero_is : word s i / 4 ≡ 0 = ap (λ (k : ℕ). k / 4) word_is ∙ says.0 in omega arith in
        subst (λ (z : Board S). Shown s start i z [])
        (some-injective (floor.fresh (meaning start)) b (sym here ∙ e')) (inl record {
          word_is = subst (λ (k : ℕ). (k % 4 ≡ 0) ⊎ (k % 4 ≡ 3)) (sym word_is) says.1;
          worker = refl;
          used = none_paid;
          all_sent = all_at (λ job. (meaning job).unsent ≡ []) starts i start clean e;
          job = (
            start,
            at_map some (map Some starts) i (Some start) (at_map Some starts i start e),
            refl,
            sym (append-nil (sent start)),
          );
        });
    goes_on = refl;
  }
