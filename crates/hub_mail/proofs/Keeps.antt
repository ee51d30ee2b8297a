-- Each step keeps the rule of the mailbox.
use Rattle.std.proofs.Common.{◌≡◌, ◌≢◌, ◌∙◌, ℕ, suc, ◌+◌, ◌<◌, ◌==◌, eqb, cond, Bool, true, false, true≢false}
use Rattle.std.proofs.Common.{List, [], ◌∷◌, ◌++◌, length, set, refl, sym, ap, subst, inl, inr, ⊎_elim, append_assoc}
use Rattle.std.proofs.Common.{arith, eq-eqb, ne_eqb}
use Rattle.std.specs.Cmp.{nat_eq_equiv}
use Rattle.std.specs.List.{IsDistinct, list_any}
use Rattle.std.proofs.lemmas.Bool.{cases_eq}
use Rattle.std.proofs.lemmas.List.{map-append}
use Rattle.std.proofs.lemmas.Map.Keys.{IsDistinct-push}
use mathlib.Core.Option.{Option, some, none, some-injective, some-ne-none}
use lib.ListN.{get_elem?}
use Rattle.crossbeam_queue.specs.Fifo.{Pushes, Pops, Forks, Merges}
use Rattle.crossbeam_queue.proofs.Lists.{at_last, at_longer, at_set, set_else, set_here}
use Rattle.dev_core.specs.declared.post.Post.{Post}
use Rattle.hub_mail.specs.declared.view.Sent.{Sent}
use Rattle.hub_mail.specs.declared.view.View.{View}
use Rattle.hub_mail.specs.declared.view.View.TheVariants.{Owner, Sender, Spent}
use Rattle.hub_mail.specs.Posts.{of_board, RiseByNumber, IsAbove}
use Rattle.hub_mail.specs.Inner.Steps.{first, spent, one_more, next_pass, with_post, with_drawn, with_pass}
use Rattle.hub_mail.specs.Inner.Mailbox.{Desk, Fits, FitsTaken, Mailbox, boards}
use Rattle.hub_mail.proofs.OfBoard.{of_here, of_else, rise_more}
use Rattle.hub_mail.proofs.Places.{Everywhere, below_length, everywhere_set, everywhere_more, everywhere_one}

-- ---- a view that fits

-- also where other boards post
fits_on : (desk : Desk) (seat : ℕ → Option ℕ) (all all' : List Post) (place : ℕ) (view : View) →
    ((board : ℕ) → seat board ≡ some place → of_board board all' ≡ of_board board all) →
    Fits desk seat all place view → Fits desk seat all' place view
fits_on desk seat all all' place (Owner count popped taken) same h = h
fits_on desk seat all all' place (Sender board posts) same h = (h.0, h.1, h.2 ∙ sym (same board h.0))
fits_on desk seat all all' place Spent same h = h

-- also where the boss takes a step
fits_off : (desk desk' : Desk) (seat seat' : ℕ → Option ℕ) (all all' : List Post) (place : ℕ) (view : View) →
    place ≢ desk.place →
    ((board : ℕ) → seat board ≡ some place → board < desk.count →
    (seat' board ≡ some place) × (board < desk'.count) × (of_board board all' ≡ of_board board all)) →
    Fits desk seat all place view → Fits desk' seat' all' place view
fits_off desk desk' seat seat' all all' place (Owner count popped taken) other moved h = absurd (other h.0)
fits_off desk desk' seat seat' all all' place (Sender board posts) other moved h =
    let m = moved board h.0 h.1 in (m.0, m.1, h.2 ∙ sym m.2)
fits_off desk desk' seat seat' all all' place Spent other moved h = h

-- ---- a number without a pass

abbrev number_of : View → ℕ
number_of (Owner count popped taken) = 0
number_of (Sender board posts) = board
number_of Spent = 0

abbrev is_pass : View → Bool
is_pass (Owner count popped taken) = false
is_pass (Sender board posts) = true
is_pass Spent = false

-- one that has none after a step of a seat that has another number, or none, had none before it
none_before : (views : List View) (place : ℕ) (was new : View) (board : ℕ) → get_elem? views place ≡ some was →
    ((posts : List Post) → was ≢ Sender board posts) →
    ((j : ℕ) (posts : List Post) → get_elem? (set views place new) j ≢ some (Sender board posts)) →
    (j : ℕ) (posts : List Post) → get_elem? views j ≢ some (Sender board posts)
none_before views place was new board at other after j posts e = elim (cases_eq j place) [
  | inl here ↦
      other posts (some-injective was (Sender board posts) (sym at ∙ (ap (get_elem? views) (sym here) ∙ e)))
  | inr away ↦ after j posts (set_else views place j new away ∙ e)
]

not_a_pass : (view : View) (board : ℕ) → is_pass view ≡ false → (posts : List Post) → view ≢ Sender board posts
not_a_pass view board is posts e = true≢false (sym (ap is_pass e) ∙ is)

-- ---- a new mail

none_twice : IsDistinct eqb (boards [])
unfolding IsDistinct
none_twice = tt

pub begins : Mailbox [] (first ∷ [])
begins =
    let desk : Desk = record { place = 0; count = 0; popped = []; taken = [] } in
    record {
      desk = desk;
      seat = λ _. none;
      apart = none_twice;
      unused = λ board no_pass. refl;
      rising = λ board i j d ij jl. absurd (omega arith);
      taken = λ k sent at. absurd (some-ne-none sent (sym at));
      in_hand = everywhere_one (Fits desk (λ _. none) []) first (refl, refl, refl, refl);
    }

-- ---- a push

posts_at : (room place board : ℕ) (posts : List Post) (post : Post) → post.key.board.0 ≡ board →
    IsAbove post.key.number.0 posts →
    Pushes Mailbox room place (Sender board posts) post (λ w. w ≡ with_post (Sender board posts) post)
posts_at room place board posts post same above items views less h at =
    let mine = h.in_hand place (Sender board posts) at in
    let all : List Post = h.desk.popped ++ items in
    let all' : List Post = h.desk.popped ++ (items ++ post ∷ []) in
    let grown : all' ≡ all ++ post ∷ [] = sym (append_assoc h.desk.popped items (post ∷ [])) in
    let here : of_board board all' ≡ of_board board all ++ post ∷ [] =
    ap (of_board board) grown ∙ of_here board post all same in
    let else : (m : ℕ) → board ≢ m → of_board m all' ≡ of_board m all =
    λ m other. ap (of_board m) grown ∙ of_else m post all (λ e. other (sym same ∙ e)) in
    let rises : RiseByNumber (of_board board all') =
    subst RiseByNumber (ap (λ l. l ++ post ∷ []) mine.2 ∙ sym here)
    (rise_more posts post (subst RiseByNumber (sym mine.2) (h.rising board)) above) in
    let new : View = Sender board (posts ++ post ∷ []) in (
      new,
      record {
        desk = h.desk;
        seat = h.seat;
        apart = h.apart;
        unused = λ m no_pass.
            let near = below_length views place (Sender board posts) at in
            let other : board ≢ m = λ e. no_pass.not_in_hand place (posts ++ post ∷ [])
            (set_here views place new near ∙ ap (λ k. some (Sender k (posts ++ post ∷ []))) e) in
            else m other ∙ h.unused m record {
              not_in_hand =
                  none_before views place (Sender board posts) new m at (λ ps e. other (ap number_of e))
                  no_pass.not_in_hand;
              not_taken = no_pass.not_taken;
            };
        rising = λ m. elim (cases_eq board m) [
          | inl e ↦ subst (λ n. RiseByNumber (of_board n all')) e rises
          | inr other ↦ subst RiseByNumber (sym (else m other)) (h.rising m)
        ];
        taken = λ k sent e.
            let f = h.taken k sent e in
            (f.0, f.1, f.2 ∙ sym (else sent.board (λ d. some-ne-none place (sym mine.0 ∙ ap h.seat d ∙ f.0))));
        in_hand = everywhere_set (Fits h.desk h.seat all') views place new
            (mine.0, mine.1, ap (λ l. l ++ post ∷ []) mine.2 ∙ sym here)
            (λ j view other e. fits_on h.desk h.seat all all' j view
            (λ m s. else m (λ d. other (some-injective j place (sym s ∙ ap h.seat (sym d) ∙ mine.0))))
            (h.in_hand j view e));
      },
      refl,
    )

pub posts : (room place : ℕ) (view : View) (post : Post) (board : ℕ) (before : List Post) →
    view ≡ Sender board before → post.key.board.0 ≡ board → IsAbove post.key.number.0 before →
    Pushes Mailbox room place view post (λ w. w ≡ with_post view post)
posts room place view post board before is same above =
    subst (λ (v : View). Pushes Mailbox room place v post (λ w. w ≡ with_post v post)) (sym is)
    (posts_at room place board before post same above)

-- ---- a pop

draws_at : (place count : ℕ) (popped : List Post) (taken : List Sent) →
    Pops Mailbox place (Owner count popped taken) (λ post w. w ≡ with_drawn (Owner count popped taken) post)
draws_at place count popped taken post items views h at =
    let mine = h.in_hand place (Owner count popped taken) at in
    let all : List Post = h.desk.popped ++ (post ∷ items) in
    let all' : List Post = (h.desk.popped ++ post ∷ []) ++ items in
    let moved : all' ≡ all = append_assoc h.desk.popped (post ∷ []) items in
    let desk' : Desk = record h.desk { popped = h.desk.popped ++ post ∷ [] } in
    let new : View = Owner count (popped ++ post ∷ []) taken in (
      new,
      record {
        desk = desk';
        seat = h.seat;
        apart = h.apart;
        unused = λ m no_pass.
            ap (of_board m) moved ∙ h.unused m record {
              not_in_hand =
                  none_before views place (Owner count popped taken) new m at
                  (not_a_pass (Owner count popped taken) m refl) no_pass.not_in_hand;
              not_taken = no_pass.not_taken;
            };
        rising = λ m. subst (λ (l : List Post). RiseByNumber (of_board m l)) (sym moved) (h.rising m);
        taken = λ k sent e. let f = h.taken k sent e in (f.0, f.1, f.2 ∙ ap (of_board sent.board) (sym moved));
        in_hand = everywhere_set (Fits desk' h.seat all') views place new
            (mine.0, mine.1, ap (λ l. l ++ post ∷ []) mine.2, mine.3)
            (λ j view other e. fits_off h.desk desk' h.seat h.seat all all' j view (λ b. other (b ∙ sym mine.0))
            (λ n s less. (s, less, ap (of_board n) moved)) (h.in_hand j view e));
      },
      refl,
    )

pub draws : (place : ℕ) (view : View) (count : ℕ) (popped : List Post) (taken : List Sent) →
    view ≡ Owner count popped taken → Pops Mailbox place view (λ post w. w ≡ with_drawn view post)
draws place view count popped taken is =
    subst (λ (v : View). Pops Mailbox place v (λ post w. w ≡ with_drawn v post)) (sym is)
    (draws_at place count popped taken)

-- ---- a split

forks_at : (place count : ℕ) (popped : List Post) (taken : List Sent) →
    Forks Mailbox place (Owner count popped taken) (Owner (count + 1) popped taken) (Sender count [])
forks_at place count popped taken items views h at =
    let mine = h.in_hand place (Owner count popped taken) at in
    let same : count ≡ h.desk.count = mine.1 in
    let left : View = Owner (count + 1) popped taken in
    let changed : List View = set views place left in
    let all : List Post = h.desk.popped ++ items in
    let desk' : Desk = record h.desk { count = count + 1 } in
    let seat' : ℕ → Option ℕ = λ m. cond (m == count) (some (length changed)) (h.seat m) in
    let old : (m : ℕ) → m < h.desk.count → seat' m ≡ h.seat m =
    λ m less. ap (λ b. cond b (some (length changed)) (h.seat m)) (ne_eqb m count (λ e. omega arith)) in
    let F : ℕ → View → Type 0 = Fits desk' seat' all in
    let front : Everywhere F changed = everywhere_set F views place left (mine.0, refl, mine.2, mine.3)
    (λ j view other e. fits_off h.desk desk' h.seat seat' all all j view (λ b. other (b ∙ sym mine.0))
    (λ n s less. (old n less ∙ s, omega arith, refl)) (h.in_hand j view e)) in
    record {
      desk = desk';
      seat = seat';
      apart = h.apart;
      unused = λ m no_pass. h.unused m record {
        not_in_hand =
            none_before views place (Owner count popped taken) left m at
            (not_a_pass (Owner count popped taken) m refl)
            (λ j posts e. no_pass.not_in_hand j posts
            (at_longer changed (Sender count [] ∷ []) j (Sender m posts) e));
        not_taken = no_pass.not_taken;
      };
      rising = h.rising;
      taken = λ k sent e.
          let f = h.taken k sent e in
          let less : sent.board < h.desk.count = f.1 in
          (old sent.board less ∙ f.0, omega arith, f.2);
      in_hand = everywhere_more F changed (Sender count []) front (
        ap (λ b. cond b (some (length changed)) (h.seat count)) (eq-eqb count count refl),
        omega arith,
        sym (h.unused count record {
          not_in_hand = λ j posts e. let f = h.in_hand j (Sender count posts) e in omega (arith, f.1);
          not_taken = λ k sent e is. let f = h.taken k sent e in omega (arith, f.1);
        }),
      );
    }

pub forks : (place : ℕ) (view : View) (count : ℕ) (popped : List Post) (taken : List Sent) →
    view ≡ Owner count popped taken → Forks Mailbox place view (one_more view) (next_pass view)
forks place view count popped taken is =
    subst (λ (v : View). Forks Mailbox place v (one_more v) (next_pass v)) (sym is) (forks_at place count popped taken)

-- ---- a join

-- the number of a pass in hand is none of those that were taken in
not_taken : (board place : ℕ) (seat : ℕ → Option ℕ) (taken : List Sent) → seat board ≡ some place →
    ((k : ℕ) (sent : Sent) → get_elem? taken k ≡ some sent → seat sent.board ≡ none) →
    list_any (eqb board) (boards taken) ≡ false
not_taken board place seat [] here each = refl
not_taken board place seat (s ∷ ss) here each =
    let other : (board == s.board) ≡ false =
    ne_eqb board s.board (λ e. some-ne-none place (sym here ∙ ap seat e ∙ each 0 s refl)) in
    rw other (not_taken board place seat ss here (λ k t at. each (suc k) t at))

merges_at : (place count : ℕ) (popped : List Post) (taken : List Sent) (other board : ℕ) (posts : List Post) →
    Merges Mailbox place (Owner count popped taken) other (Sender board posts)
    (Owner count popped (taken ++ record { board = board; posts = posts } ∷ [])) Spent
merges_at place count popped taken other board posts items views h at two at' =
    let mine = h.in_hand place (Owner count popped taken) at in
    let sent : Sent = record { board = board; posts = posts } in
    let both : View = Owner count popped (taken ++ sent ∷ []) in
    let changed : List View = set views place both in
    let all : List Post = h.desk.popped ++ items in
    let was : get_elem? views other ≡ some (Sender board posts) =
    ⊎_elim (λ x. absurd (two x.0)) (λ x. x.1) (at_set views place other both (Sender board posts) at') in
    let theirs = h.in_hand other (Sender board posts) was in
    let desk' : Desk = record h.desk { taken = h.desk.taken ++ sent ∷ [] } in
    let seat' : ℕ → Option ℕ = λ m. cond (m == board) none (h.seat m) in
    let old : (m : ℕ) → m ≢ board → seat' m ≡ h.seat m =
    λ m d. ap (λ b. cond b none (h.seat m)) (ne_eqb m board d) in
    let gone : seat' board ≡ none = ap (λ b. cond b none (h.seat board)) (eq-eqb board board refl) in
    let F : ℕ → View → Type 0 = Fits desk' seat' all in
    let G : ℕ → View → Type 0 = λ j view. j ≢ other → F j view in
    let others : Everywhere G changed = everywhere_set G views place both
    (λ _. (mine.0, mine.1, mine.2, ap (λ l. l ++ sent ∷ []) mine.3))
    (λ j view apart e away. fits_off h.desk desk' h.seat seat' all all j view (λ b. apart (b ∙ sym mine.0))
    (λ m s less. (old m (λ d. away (some-injective j other (sym s ∙ ap h.seat d ∙ theirs.0))) ∙ s, less, refl))
    (h.in_hand j view e)) in
    record {
      desk = desk';
      seat = seat';
      apart = rw map-append (IsDistinct-push nat_eq_equiv (boards h.desk.taken) board h.apart
          (not_taken board other h.seat h.desk.taken theirs.0 (λ k s e. (h.taken k s e).0)));
      unused = λ m no_pass.
          let apart : board ≢ m = no_pass.not_taken (length h.desk.taken) sent
          (at_last h.desk.taken sent (length h.desk.taken) refl) in
          h.unused m record {
            not_in_hand =
                none_before views place (Owner count popped taken) both m at
                (not_a_pass (Owner count popped taken) m refl)
                (none_before changed other (Sender board posts) Spent m at' (λ ps e. apart (ap number_of e))
                no_pass.not_in_hand);
            not_taken = λ k s e. no_pass.not_taken k s (at_longer h.desk.taken (sent ∷ []) k s e);
          };
      rising = h.rising;
      taken = everywhere_more (λ k s. FitsTaken desk' seat' all s) h.desk.taken sent
          (λ k s e.
          let f = h.taken k s e in
          (old s.board (λ d. some-ne-none other (sym theirs.0 ∙ ap h.seat (sym d) ∙ f.0)) ∙ f.0, f.1, f.2))
          (gone, theirs.1, theirs.2);
      in_hand = everywhere_set F changed other Spent tt (λ j view away e. others j view e away);
    }

pub merges : (place : ℕ) (view : View) (other : ℕ) (pass : View) (count : ℕ) (popped : List Post) (taken : List Sent)
    (board : ℕ) (posts : List Post) → view ≡ Owner count popped taken → pass ≡ Sender board posts →
    Merges Mailbox place view other pass (with_pass view pass) spent
merges place view other pass count popped taken board posts is are =
    subst (λ (y : View × View). Merges Mailbox place y.0 other y.1 (with_pass y.0 y.1) Spent)
    (λ i. (sym is i, sym are i)) (merges_at place count popped taken other board posts)
