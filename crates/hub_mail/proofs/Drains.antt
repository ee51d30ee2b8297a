-- What the end of a drain tells, where all passes were taken in.
use Rattle.std.proofs.Common.{◌≡◌, ◌≢◌, ◌∙◌, ℕ, suc, ◌<◌, ◌≤◌, ◌==◌, eqb, leb, if◌then◌else◌, true, false}
use Rattle.std.proofs.Common.{List, [], ◌∷◌, ◌++◌, length, refl, sym, ap, subst, ⊎_elim, arith, true≢false}
use Rattle.std.specs.Cmp.{nat_eq_equiv}
use Rattle.std.specs.List.{IsDistinct, list_any}
use Rattle.std.proofs.Math.Bool.{or-false}
use Rattle.std.proofs.lemmas.Bool.Decides.{eqb_tells, leb_tells}
use Rattle.std.proofs.lemmas.List.{append-nil, length-append, length-map}
use Rattle.std.proofs.lemmas.List.Folds.{list_any-append}
use Rattle.std.proofs.lemmas.Map.Keys.{IsDistinct-push}
use Rattle.std.proofs.lemmas.Map.Steps.{length-le_from_distinct_below}
use Rattle.std.proofs.lemmas.Bool.{cases_Bool}
use Rattle.crossbeam_queue.specs.Fifo.{Learns}
use Rattle.dev_core.specs.declared.post.Post.{Post}
use Rattle.hub_mail.specs.declared.view.Sent.{Sent}
use Rattle.hub_mail.specs.declared.view.View.{View}
use Rattle.hub_mail.specs.declared.view.View.TheVariants.{Owner, Sender}
use Rattle.hub_mail.specs.Posts.{of_board}
use Rattle.hub_mail.specs.Boss.{posted_by}
use Rattle.hub_mail.specs.Inner.Mailbox.{AreAll, Mailbox, Told, boards}
use Rattle.hub_mail.proofs.Places.{Everywhere}

posted_found : (board : ℕ) (taken : List Sent) (all : List Post) →
    Everywhere (λ k s. s.posts ≡ of_board s.board all) taken → list_any (eqb board) (boards taken) ≡ true →
    posted_by board taken ≡ of_board board all
posted_found board [] all each found = absurd (true≢false (sym found))
posted_found board (s ∷ ss) all each found = ⊎_elim
    (λ (x : ((board == s.board) ≡ true) × (board ≡ s.board)).
    ap (λ b. if b then s.posts else posted_by board ss) x.0 ∙ each 0 s refl ∙ ap (λ m. of_board m all) (sym x.1))
    (λ (x : ((board == s.board) ≡ false) × (board ≢ s.board)).
    ap (λ b. if b then s.posts else posted_by board ss) x.0
    ∙ posted_found board ss all (λ k t at. each (suc k) t at) (rw x.0 at found))
    (eqb_tells board s.board)

posted_none : (board : ℕ) (taken : List Sent) → list_any (eqb board) (boards taken) ≡ false →
    posted_by board taken ≡ []
posted_none board [] found = refl
posted_none board (s ∷ ss) found = ⊎_elim
    (λ (x : ((board == s.board) ≡ true) × (board ≡ s.board)). absurd (true≢false (rw x.0 at found)))
    (λ (x : ((board == s.board) ≡ false) × (board ≢ s.board)).
    ap (λ b. if b then s.posts else posted_by board ss) x.0 ∙ posted_none board ss (rw x.0 at found))
    (eqb_tells board s.board)

below : (board count : ℕ) (taken : List Sent) → Everywhere (λ k s. s.board < count) taken →
    list_any (eqb board) (boards taken) ≡ true → board < count
below board count [] each found = absurd (true≢false (sym found))
below board count (s ∷ ss) each found = ⊎_elim
    (λ (x : ((board == s.board) ≡ true) × (board ≡ s.board)). let less : s.board < count = each 0 s refl in omega arith)
    (λ (x : ((board == s.board) ≡ false) × (board ≢ s.board)).
    below board count ss (λ k t at. each (suc k) t at) (rw x.0 at found))
    (eqb_tells board s.board)

-- as many numbers below the count as it says, which differ, leave no other below it
no_room : (board count : ℕ) (taken : List Sent) → length taken ≡ count → IsDistinct eqb (boards taken) →
    Everywhere (λ k s. s.board < count) taken → list_any (eqb board) (boards taken) ≡ false → count ≤ board
no_room board count taken full apart each absent = ⊎_elim
    (λ (x : (leb count board ≡ true) × (count ≤ board)). x.1)
    (λ (x : (leb count board ≡ false) × (board < count)). let less : board < count = x.1 in absurd (
    let more = IsDistinct-push nat_eq_equiv (boards taken) board apart absent in
    let bound : length (boards taken ++ board ∷ []) ≤ count =
    length-le_from_distinct_below (boards taken ++ board ∷ []) count more
    (λ q found. ⊎_elim (λ (e : ((q == board) ≡ true) × (q ≡ board)). omega arith)
    (λ (e : ((q == board) ≡ false) × (q ≢ board)).
    below q count taken each (rw (list_any-append, e.0, or-false) at found)) (eqb_tells q board)) in
    omega (arith, length-append (boards taken) (board ∷ []), length-map taken (λ (s : Sent). s.board))))
    (leb_tells count board)

tells_at : (place count : ℕ) (popped : List Post) (taken : List Sent) → length taken ≡ count →
    Learns Mailbox place (Owner count popped taken) (Told (Owner count popped taken))
tells_at place count popped taken full items views h at =
    let mine = h.in_hand place (Owner count popped taken) at in
    let all : List Post = h.desk.popped ++ items in
    let same : popped ++ items ≡ all = ap (λ l. l ++ items) mine.2 in
    let is_taken : (board : ℕ) → of_board board all ≡ posted_by board h.desk.taken =
    λ board. ⊎_elim
    (λ (found : list_any (eqb board) (boards h.desk.taken) ≡ true).
    sym (posted_found board h.desk.taken all (λ k s e. (h.taken k s e).2) found))
    (λ (absent : list_any (eqb board) (boards h.desk.taken) ≡ false).
    let beyond : h.desk.count ≤ board =
    no_room board h.desk.count h.desk.taken (ap length (sym mine.3) ∙ full ∙ mine.1) h.apart
    (λ k s e. (h.taken k s e).1) absent in
    h.unused board record {
      not_in_hand = λ j posts e. let f = h.in_hand j (Sender board posts) e in omega (arith, f.1, beyond);
      not_taken = λ k s e is. let f = h.taken k s e in omega (arith, f.1, beyond, is);
    } ∙ sym (posted_none board h.desk.taken absent))
    (cases_Bool (list_any (eqb board) (boards h.desk.taken))) in
    let are_all : AreAll h.desk.taken all = record {
      apart = h.apart;
      boards = is_taken;
      each = λ k s e. (h.taken k s e).2;
      rising = h.rising;
    } in
    subst (λ (y : List Sent × List Post). AreAll y.0 y.1) (λ i. (sym mine.3 i, sym same i)) are_all

pub tells : (place : ℕ) (view : View) (count : ℕ) (popped : List Post) (taken : List Sent) →
    view ≡ Owner count popped taken → length taken ≡ count → Learns Mailbox place view (Told view)
tells place view count popped taken is full =
    subst (λ (v : View). Learns Mailbox place v (Told v)) (sym is) (tells_at place count popped taken full)

-- what a pop tells that finds nothing
pub learned : (view : View) (count : ℕ) (popped : List Post) (taken : List Sent) →
    view ≡ Owner count popped taken → Told view [] → AreAll taken popped
learned view count popped taken is told =
    let all : AreAll taken (popped ++ []) = subst (λ (v : View). Told v []) is told in
    subst (AreAll taken) (append-nil popped) all
