-- Each step on the bench keeps its rule.
use Rattle.std.proofs.Common.{◌≡◌, ℕ, zero, suc, ◌+◌, ◌*◌, ◌/◌, ◌%◌, ◌^◌, ◌<◌, ◌≤◌, ◌≢◌, ◌⊎◌, inl, inr, false}
use Rattle.std.proofs.Common.{true≢false, List, [], ◌∷◌, ◌++◌, length, set, sym, refl, ap, ◌∙◌, subst, ⊎_elim}
use Rattle.std.proofs.Common.{arith, length-set, get_or-set_other, get_or-set_same, Option, Some, None}
use mathlib.Core.Logic.{dite}
use mathlib.Core.Option.{some, none, some-injective, some-ne-none}
use native.Mathlib.Decide.{ℕ_discrete}
use lib.ListN.{get_elem?}
use Rattle.std.specs.Int.Bits.{bit_or, or_zero_r}
use Rattle.std.proofs.lemmas.Nat.{or_block}
use Rattle.atomic_table.specs.Table.{State, Act, step, keeps, takes, gives, Valid, stepped, carried_after, Allows}
use Rattle.atomic_table.specs.Table.{Splits, Joins}
use Rattle.atomic_table.proofs.Lists.{at_set, at_snoc, at_longer, set_here, set_else, set_again}
use Rattle.floor_run.specs.declared.view.View.{View}
use Rattle.floor_run.specs.Inner.Steps.{Seated, reports, claims}
use Rattle.floor_run.specs.Rule.{Whereabouts, home, out, done, word_of, home_word, Tally, Homes, Holds, Lies, InPlace}
use Rattle.floor_run.specs.Rule.{BoardRule, ViewRule, Rule}
use Rattle.floor_run.specs.View.{spent, empty_handed, after_claim}

-- one of two cells
abbrev pick : {P : Type 0} → Dec P → Tally → Tally → Tally
pick (yes _) a b = a
pick (no _) a b = b

-- the cells, with another at i
pub put : (ℕ → Tally) → ℕ → Tally → ℕ → Tally
put tallies i c j = pick (ℕ_discrete j i) c (tallies j)

-- what holds of the new cell at i, and of each other cell, holds after
at_put :
    (tallies : ℕ → Tally) (i : ℕ) (c : Tally) (F : ℕ → Tally → Type 0) (j : ℕ) → F i c →
    (j ≢ i → F j (tallies j)) → F j (put tallies i c j)
unfolding put
at_put tallies i c F j here other = go (ℕ_discrete j i)
  where
    go : (d : Dec (j ≡ i)) → F j (pick d c (tallies j))
    go (yes e) = subst (λ (k : ℕ). F k c) (sym e) here
    go (no n) = other n

put_here : (tallies : ℕ → Tally) (i : ℕ) (c : Tally) → put tallies i c i ≡ c
put_here tallies i c = at_put tallies i c (λ q x. q ≡ i → x ≡ c) i (λ _. refl) (λ n. absurd (n refl)) refl

put_else : (tallies : ℕ → Tally) (i : ℕ) (c : Tally) (j : ℕ) → j ≢ i → put tallies i c j ≡ tallies j
put_else tallies i c j other =
    at_put tallies i c (λ q x. q ≢ i → x ≡ tallies q) j (λ n. absurd (n refl)) (λ _ _. refl) other

-- or'ing 1 into a word
or_at : (a k : ℕ) → k < 4 → bit_or (4 * a + k) 1 ≡ 4 * a + bit_or k 1
or_at a k h =
    let e : 4 * a + k ≡ a * 2 ^ 2 + k = omega arith in
    ap (λ (n : ℕ). bit_or n 1) e ∙
    (or_block 2 a 0 k 1 (omega arith) (omega arith) ∙
    (rw or_zero_r (let f : a * 4 + bit_or k 1 ≡ 4 * a + bit_or k 1 = omega arith in f)))

pub or_even : (a : ℕ) → bit_or (4 * a) 1 ≡ 4 * a + 1
or_even a = let e : 4 * a ≡ 4 * a + 0 = omega arith in ap (λ (n : ℕ). bit_or n 1) e ∙ or_at a 0 (omega arith)

pub or_one : (a : ℕ) → bit_or (4 * a + 1) 1 ≡ 4 * a + 1
or_one a = or_at a 1 (omega arith)

pub or_three : (a : ℕ) → bit_or (4 * a + 3) 1 ≡ 4 * a + 3
or_three a = or_at a 3 (omega arith)

-- what is there is there after a write
pub set_there : {A : Type 0} (l : List A) (i : ℕ) (a b : A) → get_elem? l i ≡ some a → get_elem? (set l i b) i ≡ some b
set_there [] i a b e = absurd (some-ne-none a (sym e))
set_there (x ∷ xs) zero a b e = refl
set_there (x ∷ xs) (suc i) a b e = set_there xs i a b e

pub there : {A : Type 0} (l : List A) (i : ℕ) → i < length l → (a : A) × (get_elem? l i ≡ some a)
there [] i h = absurd (omega arith)
there (x ∷ xs) zero h = (x, refl)
there (x ∷ xs) (suc i) h = there xs i (omega arith)

pub below : {A : Type 0} (l : List A) (i : ℕ) (a : A) → get_elem? l i ≡ some a → i < length l
below [] i a e = absurd (some-ne-none a (sym e))
below (x ∷ xs) zero a e = omega arith
below (x ∷ xs) (suc i) a e = let h = below xs i a e in omega arith

pub none_held : {J X : Type 0} (o : Option J) (job : J) → o ≡ None → o ≡ Some job → X
none_held o job a b = let e : None ≡ Some job = sym a ∙ b in cc

some_held : {J : Type 0} (o : Option J) (a b : J) → o ≡ Some a → o ≡ Some b → a ≡ b
some_held o a b p q = let e : Some a ≡ Some b = sym p ∙ q in cc

module _ {J : Type 0} (left : J → ℕ) (AfterTurns : J → ℕ → J → Type 0) where
  abbrev St : Type 0
  St = State (Option J) (View J)

  -- a board stays in its place where its cell and the seat that holds it stay
  stays :
      (homes homes' : Homes J) (views : List (View J)) (id : ℕ) (v w : View J) (start : J) (j i q : ℕ)
      (place : Whereabouts)
      → get_elem? views id ≡ some v →
      ((job : J) → v.held ≡ Some job → v.board ≡ i) → j ≢ i → get_elem? homes' j ≡ get_elem? homes j
      → InPlace left AfterTurns homes views start j q place →
      InPlace left AfterTurns homes' (set views id w) start j q place
  stays homes homes' views id v w start j i q home at mine other same p = (p.0, (p.1.0, same ∙ p.1.1, p.1.2))
  stays homes homes' views id v w start j i q done at mine other same p = (p.0, (p.1.0, same ∙ p.1.1, p.1.2))
  stays homes homes' views id v w start j i q (out seat) at mine other same p = let h = p.1 in dite (ℕ_discrete seat id)
      (λ e. let is : h.0 ≡ v = some-injective h.0 v (sym h.2 ∙ (ap (get_elem? views) e ∙ at)) in
      absurd (other (sym h.4 ∙ (ap (λ (x : View J). x.board) is ∙
      mine h.1 (ap (λ (x : View J). x.held) (sym is) ∙ h.3)))))
      (λ n. (p.0, (h.0, h.1, set_else views id seat w n ∙ h.2, h.3, h.4)))

  -- one board has a new cell, and one seat a new view
  moved :
      (starts : List J) (s : St) (r : Rule left AfterTurns starts s) (i id new : ℕ) (start : J) (c : Tally)
      (homes : Homes J) (v w : View J)
      → get_elem? starts i ≡ some start → get_elem? s.views id ≡ some v
      → length homes ≡ length s.homes → ((j : ℕ) → j ≢ i → get_elem? homes j ≡ get_elem? s.homes j)
      → ((job : J) → v.held ≡ Some job → v.board ≡ i)
      → ((seat : ℕ) (q : ℕ) → seat ≢ id → r.tallies i ≡ (q, out seat) → c ≡ r.tallies i)
      → BoardRule left AfterTurns (set s.words (i + 1) new) homes (set s.views id w) start i c
      → ViewRule left AfterTurns starts (put r.tallies i c) id w
      → Rule left AfterTurns starts record { words = set s.words (i + 1) new; homes = homes; views = set s.views id w }
  moved starts s r i id new start c homes v w has at long home_else mine others board ok =
      let Ok : J → ℕ → Tally → Type 0 = λ x j d. BoardRule left AfterTurns (set s.words (i + 1) new) homes
      (set s.views id w) x j d in
      record {
        tallies = put r.tallies i c;
        wide = length-set s.words (i + 1) new ∙ r.wide;
        roomy = long ∙ r.roomy;
        zero_is = get_or-set_other s.words (i + 1) 0 new 0 (λ e. omega arith) ∙ r.zero_is;
        each_board = λ j x e. at_put r.tallies i c (λ k d. get_elem? starts k ≡ some x → Ok x k d) j
            (λ e'. subst (λ (z : J). Ok z i c) (some-injective start x (sym has ∙ e')) board)
            (λ other e'. let was = r.each_board j x e' in record {
              shows = get_or-set_other s.words (i + 1) (j + 1) new 0 (λ same. other (omega arith)) ∙ was.shows;
              stands =
                  stays s.homes homes s.views id v w x j i (r.tallies j).0 (r.tallies j).1 at mine other
                  (home_else j other) was.stands;
              fits = was.fits;
            })
            e;
        each_view = λ seat u e. ⊎_elim
            (λ (t : (seat ≡ id) × (w ≡ u)). subst
            (λ (z : ℕ × View J). ViewRule left AfterTurns starts (put r.tallies i c) z.0 z.1)
            (λ k. (sym t.0 k, t.1 k)) ok)
            (λ (t : (seat ≢ id) × (get_elem? s.views seat ≡ some u)). let was = r.each_view seat u t.1 in record {
              same = was.same;
              claimed = λ job h. let k = was.claimed job h in (
                dite (ℕ_discrete u.board i)
                    (λ same. ap (put r.tallies i c) same ∙
                    (put_here r.tallies i c ∙ (others seat (u.found / 4) t.0 (ap r.tallies (sym same) ∙ k.0) ∙
                    (ap r.tallies (sym same) ∙ k.0))))
                    (λ n. put_else r.tallies i c u.board n ∙ k.0),
                k.1,
                k.2,
              );
            })
            (at_set s.views id seat w u e);
      }

  -- the step may be made: a new view and an act keep the rule, and it tells this
  abbrev Goes : List J → St → ℕ → ℕ → Seated J → (Seated J → Type 0) → ℕ → Type 0
  Goes starts s i id me told new =
      (w : View J) × (a : Act (Option J)) × Valid s.homes me.1 a ×
      Rule left AfterTurns starts (stepped s i new id me.1 w a) × told (w, carried_after me.1 a)

  module _ (starts : List J) (s : St) (r : Rule left AfterTurns starts s) (cells id : ℕ) (me : Seated J) (i : ℕ)
      (start : J) (live : me.0.spent ≡ false) (empty : me.0.held ≡ None)
      (has : get_elem? starts i ≡ some start) (at : get_elem? s.views id ≡ some me.0) where
    abbrev Claims : ℕ → Seated J → Type 0
    Claims n m = claims left AfterTurns (step cells (i + 1) 1 0 none) me n m

    not_mine : (views : List (View J)) (seat : ℕ) → get_elem? views id ≡ some me.0 → Holds views i seat → seat ≢ id
    not_mine views seat at' h e =
        let is : h.0 ≡ me.0 = some-injective h.0 me.0 (sym h.2 ∙ (ap (get_elem? views) e ∙ at')) in
        none_held me.0.held h.1 empty (ap (λ (x : View J). x.held) (sym is) ∙ h.3)

    roomy_word : i + 1 < length s.words
    roomy_word = let a = below starts i start has in let b = r.wide in omega arith

    missed :
        (n q : ℕ) (place : Whereabouts) → r.tallies i ≡ (q, place) → n ≡ word_of q place → bit_or n 1 ≡ n →
        ((n % 4 ≡ 1) ⊎ (n % 4 ≡ 3)) → n % 2 ≡ 1
        → InPlace left AfterTurns s.homes (set s.views id (after_claim me.0 i n None)) start i q place →
        left start < 18446744073709551616 → Goes starts s (i + 1) id me (Claims n) (bit_or n 1)
    missed n q place is shown same four odd stands fits =
        let w : View J = after_claim me.0 i n None in (
          w,
          keeps,
          tt,
          moved starts s r i id (bit_or n 1) start (q, place) s.homes me.0 w has at refl (λ _ _. refl)
              (λ job h. none_held me.0.held job empty h) (λ _ _ _ _. sym is)
              record {
                shows = get_or-set_same s.words (i + 1) (bit_or n 1) 0 roomy_word ∙ (same ∙ shown);
                stands = stands;
                fits = fits;
              }
              record {
                same = λ _. (r.each_view id me.0 at).same live;
                claimed = λ job h. none_held None job refl h;
              },
          ((λ even. absurd (omega arith)), (λ _. (i, refl, (four, refl)))),
        )

    claim_at :
        (q : ℕ) (place : Whereabouts) → r.tallies i ≡ (q, place) →
        BoardRule left AfterTurns s.words s.homes s.views start i (q, place) →
        Goes starts s (i + 1) id me (Claims (word_of q place)) (bit_or (word_of q place) 1)
    claim_at q home is ok =
        let n : ℕ = 4 * q in
        let p = ok.stands in
        let job : J = p.1.0 in
        let w : View J = after_claim me.0 i n (Some job) in
        let quarter : n / 4 ≡ q = omega arith in
        let starts_is = (r.each_view id me.0 at).same live in
        let paid_for : AfterTurns start (n / 4) job = subst (λ (k : ℕ). AfterTurns start k job) (sym quarter) p.1.2 in
        let more : 4096 * (n / 4) < left start = subst (λ (k : ℕ). 4096 * k < left start) (sym quarter) p.0 in (
          w,
          takes i (Some job),
          p.1.1,
          moved starts s r i id (bit_or n 1) start (q, out id) (set s.homes i none) me.0 w has at
              (length-set s.homes i none) (λ j other. set_else s.homes i j none other)
              (λ x h. none_held me.0.held x empty h)
              (λ seat k _ e. let bad : home ≡ out seat = ap (λ (c : Tally). c.1) (sym is ∙ e) in absurd (cc))
              record {
                shows = get_or-set_same s.words (i + 1) (bit_or n 1) 0 roomy_word ∙ or_even q;
                stands = (p.0, (w, job, set_there s.views id me.0 w at, refl, refl));
                fits = ok.fits;
              }
              record {
                same = λ _. starts_is;
                claimed = λ x h.
                    let same : job ≡ x = some_held (Some job) job x refl h in (
                      put_here r.tallies i (q, out id) ∙ ap (λ (k : ℕ). (k, out id)) (sym quarter),
                      omega arith,
                      (start, has, subst (λ (y : J). AfterTurns start (n / 4) y) same paid_for),
                    );
              },
          (
            (λ _.
                let known = ap (λ (l : List J). get_elem? l i) starts_is ∙ has in
                (i, refl, (start, job, known, omega arith, paid_for, more, ok.fits, refl))),
            (λ odd. absurd (omega arith)),
          ),
        )
    claim_at q (out seat) is ok =
        let n : ℕ = 4 * q + 1 in
        let p = ok.stands in
        let h = p.1 in
        let there_still = set_else s.views id seat (after_claim me.0 i n None) (not_mine s.views seat at h) ∙ h.2 in
        missed n q (out seat) is refl (or_one q) (inl (omega arith)) (omega arith)
        (p.0, (h.0, h.1, there_still, h.3, h.4)) ok.fits
    claim_at q done is ok =
        missed (4 * q + 3) q done is refl (or_three q) (inr (omega arith)) (omega arith) ok.stands ok.fits

  pub claim_keeps :
      (starts : List J) (cells id : ℕ) (me : Seated J) (i : ℕ) → me.0.spent ≡ false → me.0.held ≡ None →
      i < length me.0.starts
      → Allows (Rule left AfterTurns starts) cells id me (i + 1) (λ n. bit_or n 1)
      (claims left AfterTurns (step cells (i + 1) 1 0 none) me)
  claim_keeps starts cells id me i live empty inside s r roomy at _ =
      let same = (r.each_view id me.0 at).same live in
      let x = there starts i (subst (λ (l : List J). i < length l) same inside) in
      let ok = r.each_board i x.0 x.1 in
      subst (λ (n : ℕ). Goes starts s (i + 1) id me (claims left AfterTurns (step cells (i + 1) 1 0 none) me n)
      (bit_or n 1)) (sym ok.shows)
      (claim_at starts s r cells id me i x.0 live empty x.1 at (r.tallies i).0 (r.tallies i).1 refl ok)

  -- what the word of a board becomes at its report
  abbrev pub Ends : ℕ → J → ℕ → Type 0
  Ends new start q = ((new ≡ 4 * q) × (4096 * q < left start)) ⊎ ((new ≡ 4 * q + 3) × (left start ≤ 4096 * q))

  module _ (starts : List J) (s : St) (r : Rule left AfterTurns starts s) (cells id : ℕ) (me : Seated J) (i q new : ℕ)
      (start job claimed : J)
      (has : get_elem? starts i ≡ some start) (at : get_elem? s.views id ≡ some me.0) (held : me.0.held ≡ Some claimed)
      (board : me.0.board ≡ i) (live : me.0.spent ≡ false)
      (holds : me.1 ≡ (i, Some job) ∷ []) (is : r.tallies i ≡ (q, out id)) (stands : AfterTurns start (q + 1) job)
      (fits : left start < 18446744073709551616) (counts : new ≡ home_word left (me.0.found / 4 + 1) job) where
    reported :
        (place : Whereabouts) → new ≡ word_of (q + 1) place →
        InPlace left AfterTurns (set s.homes i (some (Some job))) (set s.views id (empty_handed me.0)) start i
        (q + 1) place
        → Goes starts s (i + 1) id me (reports left (step cells (i + 1) new 0 none) me new) new
    reported place shown lies =
        let w : View J = empty_handed me.0 in
        let homes' : Homes J = set s.homes i (some (Some job)) in (
          w,
          gives,
          tt,
          subst (λ (c : List (ℕ × Option J)). Rule left AfterTurns starts (stepped s (i + 1) new id c w gives))
              (sym holds)
              (moved starts s r i id new start (q + 1, place) homes' me.0 w has at
              (length-set s.homes i (some (Some job))) (λ j other. set_else s.homes i j (some (Some job)) other)
              (λ x h. board)
              (λ seat k other e. let same : id ≡ seat = ap seat_of (sym is ∙ e) in absurd (other (sym same)))
              record {
                shows =
                    get_or-set_same s.words (i + 1) new 0
                    (let a = below starts i start has in let b = r.wide in omega arith) ∙
                    shown;
                stands = lies;
                fits = fits;
              }
              record {
                same = λ _. (r.each_view id me.0 at).same live;
                claimed = λ x h. none_held None x refl h;
              }),
          ((i, job, refl, holds, counts), refl),
        )
      where
        seat_of : Tally → ℕ
        seat_of (k, home) = 0
        seat_of (k, out seat) = seat
        seat_of (k, done) = 0

    lies : Lies left AfterTurns (set s.homes i (some (Some job))) start i (q + 1)
    lies =
        let a = below starts i start has in
        let b = r.roomy in
        (job, set_here s.homes i (some (Some job)) (omega arith), stands)

    reported_as :
        Ends new start (q + 1) → Goes starts s (i + 1) id me (reports left (step cells (i + 1) new 0 none) me new) new
    reported_as (inl e) = reported home e.0 (e.1, lies)
    reported_as (inr e) = reported done e.0 (e.1, lies)

  pub report_keeps :
      (starts : List J) (cells id : ℕ) (me : Seated J) (i new : ℕ) (job claimed : J) → me.0.spent ≡ false →
      me.0.held ≡ Some claimed → me.0.board ≡ i → me.1 ≡ (i, Some job) ∷ [] →
      new ≡ home_word left (me.0.found / 4 + 1) job
      → ((start : J) → get_elem? me.0.starts i ≡ some start → AfterTurns start (me.0.found / 4) claimed →
      AfterTurns start (me.0.found / 4 + 1) job × Ends new start (me.0.found / 4 + 1))
      → Allows (Rule left AfterTurns starts) cells id me (i + 1) (λ _. new)
      (λ _ m. reports left (step cells (i + 1) new 0 none) me new m)
  report_keeps starts cells id me i new job claimed live held board holds counts next s r roomy at _ =
      let v = r.each_view id me.0 at in
      let k = v.claimed claimed held in
      let is : r.tallies i ≡ (me.0.found / 4, out id) = ap r.tallies (sym board) ∙ k.0 in
      let start : J = k.2.0 in
      let has : get_elem? starts i ≡ some start = ap (get_elem? starts) (sym board) ∙ k.2.1 in
      let n = next start (ap (λ (l : List J). get_elem? l i) (v.same live) ∙ has) k.2.2 in
      reported_as starts s r cells id me i (me.0.found / 4) new start job claimed has at held board live holds is n.0
      (r.each_board i start has).fits counts n.1

  pub split_keeps :
      (starts : List J) (id : ℕ) (v : View J) → Splits (Rule left AfterTurns starts) id v v (empty_handed v)
  split_keeps starts id v s r at =
      let right : View J = empty_handed v in
      subst (λ (l : List (View J)). Rule left AfterTurns starts (record s { views = l ++ right ∷ [] }))
      (sym (set_again s.views id v at)) record {
        tallies = r.tallies;
        wide = r.wide;
        roomy = r.roomy;
        zero_is = r.zero_is;
        each_board = λ i x e. let was = r.each_board i x e in record {
          shows = was.shows;
          stands = longer x i (r.tallies i).0 (r.tallies i).1 was.stands;
          fits = was.fits;
        };
        each_view = λ seat u e. ⊎_elim
            (λ (t : get_elem? s.views seat ≡ some u). r.each_view seat u t)
            (λ (t : right ≡ u). subst (ViewRule left AfterTurns starts r.tallies seat) t record {
              same = (r.each_view id v at).same;
              claimed = λ x h. none_held None x refl h;
            })
            (at_snoc s.views right u seat e);
      }
    where
      longer :
          (x : J) (i q : ℕ) (place : Whereabouts) → InPlace left AfterTurns s.homes s.views x i q place →
          InPlace left AfterTurns s.homes (s.views ++ empty_handed v ∷ []) x i q place
      longer x i q home p = p
      longer x i q done p = p
      longer x i q (out seat) p =
          (p.0, (p.1.0, p.1.1, at_longer s.views (empty_handed v ∷ []) seat p.1.0 p.1.2, p.1.3, p.1.4))

  pub join_keeps :
      (starts : List J) (id : ℕ) (v : View J) (other : ℕ) (w : View J) → w.held ≡ None →
      Joins (Rule left AfterTurns starts) id v other w v spent
  join_keeps starts id v other w empty s r at apart at' =
      let as_was : set s.views id v ≡ s.views = set_again s.views id v at in
      let there' : get_elem? s.views other ≡ some w =
      ap (λ (l : List (View J)). get_elem? l other) (sym as_was) ∙ at' in
      subst (λ (l : List (View J)). Rule left AfterTurns starts (record s { views = set l other spent }))
      (sym as_was) record {
        tallies = r.tallies;
        wide = r.wide;
        roomy = r.roomy;
        zero_is = r.zero_is;
        each_board = λ i x e. let was = r.each_board i x e in record {
          shows = was.shows;
          stands = kept there' x i (r.tallies i).0 (r.tallies i).1 was.stands;
          fits = was.fits;
        };
        each_view = λ seat u e. ⊎_elim
            (λ (t : (seat ≡ other) × (spent ≡ u)). subst (ViewRule left AfterTurns starts r.tallies seat) t.1 record {
              same = λ h. absurd (true≢false h);
              claimed = λ x h. none_held None x refl h;
            })
            (λ (t : (seat ≢ other) × (get_elem? s.views seat ≡ some u)). r.each_view seat u t.1)
            (at_set s.views other seat spent u e);
      }
    where
      kept :
          get_elem? s.views other ≡ some w →
          (x : J) (i q : ℕ) (place : Whereabouts) → InPlace left AfterTurns s.homes s.views x i q place →
          InPlace left AfterTurns s.homes (set s.views other spent) x i q place
      kept there' x i q home p = p
      kept there' x i q done p = p
      kept there' x i q (out seat) p = let h = p.1 in (
        p.0,
        (
          h.0,
          h.1,
          set_else s.views other seat spent
              (λ e. let is : h.0 ≡ w = some-injective h.0 w (sym h.2 ∙ (ap (get_elem? s.views) e ∙ there')) in
              none_held w.held h.1 empty (ap (λ (y : View J). y.held) (sym is) ∙ h.3)) ∙ h.2,
          h.3,
          h.4,
        ),
      )

  -- the same, of a seat whose view is known
  pub report_from :
      (starts : List J) (cells id : ℕ) (me : Seated J) (v : View J) (i new : ℕ) (job claimed : J) →
      me ≡ (v, (i, Some job) ∷ []) → v.spent ≡ false → v.held ≡ Some claimed → v.board ≡ i →
      new ≡ home_word left (v.found / 4 + 1) job
      → ((start : J) → get_elem? v.starts i ≡ some start → AfterTurns start (v.found / 4) claimed →
      AfterTurns start (v.found / 4 + 1) job × Ends new start (v.found / 4 + 1))
      → Allows (Rule left AfterTurns starts) cells id me (i + 1) (λ _. new)
      (λ _ m. reports left (step cells (i + 1) new 0 none) me new m)
  report_from starts cells id me v i new job claimed e live held board counts next =
      subst (λ (x : Seated J). Allows (Rule left AfterTurns starts) cells id x (i + 1) (λ _. new)
      (λ _ m. reports left (step cells (i + 1) new 0 none) x new m)) (sym e)
      (report_keeps starts cells id (v, (i, Some job) ∷ []) i new job claimed live held board refl counts next)
