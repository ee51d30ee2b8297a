-- Boards that are lent come back as their slots have left them.
use Rattle.std.proofs.Common.{◌≡◌, ◌∙◌, sym, ap, refl, ℕ, suc, ◌+◌, ◌*◌, ◌^◌, ◌<◌, ◌≤◌, List, [], ◌∷◌, ◌++◌, length}
use Rattle.std.proofs.Common.{map, take, drop, set, get_or, append_assoc, subst, slice_get, Option, Some, None, false}
use Rattle.std.proofs.Common.{add-zero, zero-add, arith}
use Rattle.std.proofs.lemmas.Bool.Decides.{nat_tests}
use Rattle.std.proofs.lemmas.List.{append-nil, length-map, map-append}
use Rattle.std.proofs.Math.Seq.{take-length, drop-length}
use Rattle.std.proofs.lemmas.Grind.{common_steps}
use Rattle.std.proofs.lemmas.List.Elements.{All-from_recursion, All-head, All-tail}
use Rattle.std.proofs.lemmas.List.FromFn.{get_or-map-range_with_len, length-range_with_len}
use Rattle.std.proofs.lemmas.List.Sums.{fails_before_first}
use Rattle.std.proofs.lemmas.Option.{slice_get-map, slice_get-get_or, same_Some}
use Rattle.std.specs.Prelude.{is_none, IsSome}
use Rattle.std.specs.List.{flat_map, All, AllByRecursion, position_or_len, range_with_len}
use Rattle.std.specs.Option.{option_map, option_map_or}
use Rattle.lab_num.specs.Paid.{paid}
use Rattle.board.specs.View.{View}
use Rattle.dev_core.specs.declared.post.Post.{Post}
use Rattle.hub_mail.specs.declared.view.Sent.{Sent}
use Rattle.hub_mail.specs.Boss.{Boss, sent_by}
use Rattle.hub_mail.specs.Pass.{MailId, Pass, fresh_passes, fresh as new_pass}
use Rattle.board_job.specs.BoardJob.{BoardJob}
use Rattle.board_job.specs.Ran.{ran}
use Rattle.time_handle.specs.Grant.{Grant, fresh, left}
use Rattle.time_source.specs.Tree.{Tree, IsLater}
use Rattle.lab_state.specs.Board.{Board}
use Rattle.lab_state.specs.One.{first_without}
use Rattle.lab_state.specs.Round.{granted, stepped, posts_made, entries_made}
use Rattle.lab_state.specs.Inner.Lending.{board_job_of, lent, away, put_back, unused, each_by, its_grant}
use Rattle.lab_state.specs.Inner.Time.{part_of, used_up, numbers_of, StandsAt, AreStanding}
use Rattle.lab_state.proofs.TimeLemmas.{few_slots}

-- ---- items changed one after another

module _ {A P : Type 0} (f : A → P → A) where
  -- the item that comes next is as it was
  pub next_by : (xs : List A) (ps : List P) (d : A) → get_or (each_by f xs ps) (length ps) d ≡ get_or xs (length ps) d
  next_by [] ps d = refl
  next_by (x ∷ xs) [] d = refl
  next_by (x ∷ xs) (p ∷ ps) d = next_by xs ps d

  pub next_at : (xs : List A) (ps : List P) → slice_get (each_by f xs ps) (length ps) ≡ slice_get xs (length ps)
  next_at [] ps = refl
  next_at (x ∷ xs) [] = refl
  next_at (x ∷ xs) (p ∷ ps) = next_at xs ps

  -- and then one item more is changed
  pub by_more :
      (xs : List A) (ps : List P) (p : P) (d : A) → length ps < length xs →
      set (each_by f xs ps) (length ps) (f (get_or xs (length ps) d) p) ≡ each_by f xs (ps ++ p ∷ [])
  by_more [] ps p d below = absurd (omega arith)
  by_more (x ∷ []) [] p d below = refl
  by_more (x ∷ y ∷ xs) [] p d below = refl
  by_more (x ∷ xs) (q ∷ ps) p d below = ap (λ ys. f x q ∷ ys) (by_more xs ps p d (omega arith))

  pub length-by : (xs : List A) (ps : List P) → length (each_by f xs ps) ≡ length xs
  length-by [] ps = refl
  length-by (x ∷ xs) [] = refl
  length-by (x ∷ xs) (p ∷ ps) = ap suc (length-by xs ps)

  -- by nothing, nothing
  pub none_by : (xs : List A) → each_by f xs [] ≡ xs
  none_by [] = refl
  none_by (x ∷ xs) = refl

-- ---- one job more

module _ (ps : List BoardJob) (p : BoardJob) {n : ℕ} (at : n ≡ length ps) where
  -- its grant is that of the member, of which nothing was used before
  pub came_later :
      (items : List BoardJob) (first : List Grant) {handles : List Grant} {grant : Grant} →
      handles ≡ each_by its_grant first ps → first ≡ map (λ (p : BoardJob). unused p.grant) items →
      length ps < length items → p ≡ get_or items (length ps) p → grant ≡ p.grant → (old : Grant) →
      slice_get handles n ≡ Some old → IsLater old grant
  came_later items first so_far parts below here given old found =
      let free : BoardJob → Grant = λ (p : BoardJob). unused p.grant in
      let is : old ≡ unused p.grant =
      same_Some old (unused p.grant)
      (sym found ∙ (λ k. slice_get (so_far k) (at k)) ∙ next_at its_grant first ps
      ∙ ap (λ (gs : List Grant). slice_get gs (length ps)) parts ∙ slice_get-map free items (length ps)
      ∙ ap (option_map free) (slice_get-get_or items (length ps) p below)
      ∙ ap (λ (q : BoardJob). Some (free q)) (sym here))
      in
      rw (is, given) (record { from = refl; to = refl; speed = refl; used = omega arith })

  pub source_more :
      (first : Tree) {source next : Tree} {grant : Grant} →
      source ≡ record first { handles = each_by its_grant first.handles ps } → length ps < length first.handles →
      grant ≡ p.grant → next ≡ record source { handles = set source.handles n grant } →
      next ≡ record first { handles = each_by its_grant first.handles (ps ++ p ∷ []) }
  source_more first {grant = grant} so_far below given placed =
      placed ∙ (λ k. record (so_far k) { handles = set (so_far k).handles (at k) (given k) })
      ∙ ap (λ (handles : List Grant). record first { handles = handles })
      (by_more its_grant first.handles ps p grant below)

  pub boards_more :
      (first : List Board) {boards : List Board} (item : Board) {new : Board} → boards ≡ each_by put_back first ps →
      length ps < length first → new ≡ put_back (get_or boards n item) p →
      set boards n new ≡ each_by put_back first (ps ++ p ∷ [])
  boards_more first item so_far below made =
      let same = made ∙ (λ k. put_back (get_or (so_far k) (at k) item) p)
      ∙ ap (λ (board : Board). put_back board p) (next_by put_back first ps item) in
      (λ k. set (so_far k) (at k) (same k)) ∙ by_more put_back first ps p item below

-- ---- all boards have plans

abbrev pub Planned : List Board → Type 0
Planned boards = AllByRecursion (λ board. IsSome board.view) boards

pub planned : (boards : List Board) → first_without boards ≡ None → Planned boards
planned boards none =
    let past : length boards ≤ position_or_len (λ (board : Board). is_none board.view) boards =
    grind (arith, nat_tests, none) in
    each boards
    (λ k d below. fails_before_first (λ (board : Board). is_none board.view) boards k d (omega (arith, past, below)))
  where
    some : (o : Option View) → is_none o ≡ false → IsSome o
    some o is = grind (arith, common_steps)

    each : (boards : List Board) → All (λ (board : Board). is_none board.view ≡ false) boards → Planned boards
    each [] all = tt
    each (board ∷ boards) all = (
      some board.view (All-head (λ (board : Board). is_none board.view ≡ false) board boards all),
      each boards (All-tail (λ (board : Board). is_none board.view ≡ false) board boards all),
    )

-- ---- a board that is lent has room for what it makes

pub record HasRoom (p : BoardJob) : Type 0 where
  pub quiet : p.board.posts ≡ []
  pub posts : p.board.view.numbers.posted + left p.grant < 2 ^ 64
  pub entries : p.board.view.numbers.entered + left p.grant < 2 ^ 64

pub all_have_room :
    (mail : MailId) (from q : ℕ) → from + q ≤ 10000000000 → (boards : List Board) →
    AreStanding (1000 * from) (numbers_of boards) → All HasRoom (flat_map (lent mail from (from + q)) boards)
all_have_room mail from q within boards are =
    All-from_recursion HasRoom (flat_map (lent mail from (from + q)) boards)
    (each 0 boards (λ k n at. rw zero-add (are k n at)))
  where
    place : (b k : ℕ) → b + 1 + k ≡ b + suc k
    place b k = omega arith

    one :
        (b : ℕ) (o : Option View) → StandsAt (1000 * from) b (Some (option_map (λ v. v.numbers) o)) →
        (ps : List BoardJob) → AllByRecursion HasRoom ps →
        AllByRecursion HasRoom (option_map_or (λ v. board_job_of mail from (from + q) v ∷ []) o [] ++ ps)
    one b None is ps rest = rest
    one b (Some v) is ps rest =
        let own = is v.numbers refl in
        let count = few_slots from q v.numbers.speed own.most_speed in (
          record {
            quiet = refl;
            posts = omega (arith, count, own.few_posts, within);
            entries = omega (arith, count, own.few_entries, within);
          },
          rest,
        )

    each :
        (b : ℕ) (boards : List Board) →
        ((k : ℕ) → StandsAt (1000 * from) (b + k) (slice_get (numbers_of boards) k)) →
        AllByRecursion HasRoom (flat_map (lent mail from (from + q)) boards)
    each b [] are = tt
    each b (board ∷ boards) are =
        one b board.view (λ n at. rw add-zero at (are 0 n at)) (flat_map (lent mail from (from + q)) boards)
        (each (b + 1) boards (λ k n at. rw (place b k) (are (suc k) n at)))

-- ---- what comes back of boards that are lent

-- what the board of a job has posted
abbrev pub sent_of : BoardJob → Sent
sent_of p = sent_by p.pass

-- all posts of some passes, one pass after another
abbrev pub all_sent : List BoardJob → List Post
all_sent ps = flat_map (λ (s : Sent). s.posts) (map sent_of ps)

module _ (mail : MailId) (from to : ℕ) where
  -- one board
  ran_is :
      (v : View) → ran (board_job_of mail from to v) ≡ record {
        board = record (granted from to v) { posts = [] };
        grant = used_up (fresh from to v.numbers.speed);
        pass = record (new_pass mail v.numbers.number) { posted = (granted from to v).posts };
      }
  ran_is v =
      let whole : left (fresh from to v.numbers.speed) ≡ paid from to v.numbers.speed = omega arith in
      let used : 0 + paid from to v.numbers.speed ≡ paid from to v.numbers.speed =
      zero-add (paid from to v.numbers.speed) in
      rw (whole, used) refl

  -- and all of them
  pub record Comes (boards : List Board) (ps : List BoardJob) : Type 0 where
    pub back : each_by put_back (map away boards) ps ≡ map (stepped (granted from to)) boards
    pub posts : all_sent ps ≡ flat_map (posts_made (granted from to)) boards
    pub entries : flat_map (λ (p : BoardJob). p.board.entries) ps ≡ flat_map (entries_made (granted from to)) boards
    pub parts : map (part_of from to) boards ≡ map (λ (p : BoardJob). unused p.grant) ps
    pub grants : each_by its_grant (map (part_of from to) boards) ps ≡ map used_up (map (part_of from to) boards)
    pub mails : AllByRecursion (λ (p : BoardJob). p.pass.mail ≡ mail) ps
    pub count : length ps ≡ length boards

  pub come : (boards : List Board) → Planned boards → Comes boards (map ran (flat_map (lent mail from to) boards))
  come [] all =
      record { back = refl; posts = refl; entries = refl; parts = refl; grants = refl; mails = tt; count = refl }
  come (board ∷ boards) all = one board.view all.0 (come boards all.1)
    where
      one :
          (o : Option View) → IsSome o →
          Comes boards (map ran (flat_map (lent mail from to) boards)) →
          Comes (record { name = board.name; view = o } ∷ boards)
          (map ran (flat_map (lent mail from to) (record { name = board.name; view = o } ∷ boards)))
      one None some rest = absurd (cc)
      one (Some v) some rest =
          let is = ran_is v in
          record {
            back = λ i. record { name = board.name; view = Some (is i).board.view } ∷ rest.back i;
            posts = λ i. (is i).pass.posted ++ rest.posts i;
            entries = λ i. (is i).board.entries ++ rest.entries i;
            parts = λ i. fresh from to v.numbers.speed ∷ rest.parts i;
            grants = λ i. (is i).grant ∷ rest.grants i;
            mails = (refl, rest.mails);
            count = ap suc rest.count;
          }

-- ---- the passes of a new mail

pub count_of : (mail : MailId) (n : ℕ) → length (fresh_passes mail n) ≡ n
count_of mail n = length-map (range_with_len 0 n) (new_pass mail) ∙ length-range_with_len 0 n

-- each pass has its place as its board, and has posted nothing
pub its_pass :
    (mail : MailId) (count : ℕ) (pass : Pass) {passes : List Pass} {k n : ℕ} → n ≡ k →
    passes ≡ fresh_passes mail count → k < length passes → pass ≡ get_or passes k pass → pass ≡ new_pass mail n
its_pass mail count pass {k = k} {n = n} at are below here =
    here ∙ ap (λ (l : List Pass). get_or l k pass) are
    ∙ get_or-map-range_with_len (new_pass mail) 0 count k n pass
    (omega (arith, below, ap length are, count_of mail count)) (omega (arith, at))

-- ---- one pass more is taken in

-- what holds of all jobs holds of the one at this place
pub at_place :
    (P : BoardJob → Type 0) (items ps : List BoardJob) (p : BoardJob) → All P items → length ps < length items →
    p ≡ get_or items (length ps) p → P p
at_place P items ps p all below here = subst P (sym here) (all (length ps) p below)

pub boss_more :
    (ps : List BoardJob) (p : BoardJob) (first : Boss) {boss : Boss} →
    boss ≡ record first { taken = first.taken ++ map sent_of ps } →
    record boss { taken = boss.taken ++ sent_of p ∷ [] }
    ≡ record first { taken = first.taken ++ map sent_of (ps ++ p ∷ []) }
boss_more ps p first so_far =
    ap (λ (b : Boss). record b { taken = b.taken ++ sent_of p ∷ [] }) so_far
    ∙ ap (λ (sent : List Sent). record first { taken = sent })
    (append_assoc first.taken (map sent_of ps) (sent_of p ∷ [])
    ∙ ap (λ (sent : List Sent). first.taken ++ sent) (sym (map-append sent_of ps (p ∷ []))))

-- in the end the boss has those of all jobs
pub taken_are :
    (ps : List BoardJob) {first boss : Boss} → first.taken ≡ [] →
    boss ≡ record first { taken = first.taken ++ map sent_of ps } → boss.taken ≡ map sent_of ps
taken_are ps none is =
    ap (λ (b : Boss). b.taken) is ∙ ap (λ (sent : List Sent). sent ++ map sent_of ps) none

-- ---- the end

-- where all are lent, none is left
pub all_lent :
    {A B : Type 0} (f : A → B) (xs : List A) (n : ℕ) → n ≡ length xs → map f (take n xs) ≡ map f xs
all_lent f xs n all = ap (λ k. map f (take k xs)) all ∙ ap (map f) (take-length xs)

pub none_stays : {A : Type 0} (f : A → A) (xs : List A) (n : ℕ) → n ≡ length xs →
    map f (take n xs) ++ drop n xs ≡ map f xs
none_stays f xs n all =
    (λ i. all_lent f xs n all i ++ drop (all i) xs) ∙ ap (λ l. map f xs ++ l) (drop-length xs)
    ∙ append-nil (map f xs)
