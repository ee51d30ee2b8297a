-- The parts of a laboratory that can go on make up one that can.
use Rattle.std.proofs.Common.{◌≡◌, ◌∙◌, ℕ, ◌<◌, ◌==◌, Bool, true, false, ◌&&◌, ◌||◌, List, [], ◌∷◌, map}
use Rattle.std.proofs.Common.{cond, refl, sym, ap, subst, arith}
use Rattle.std.specs.Prelude.{Option, None, Some, nat_lt, unwrap_or, IsTrue}
use Rattle.std.specs.declared.cmp.Ordering.{Ordering}
use Rattle.std.specs.declared.cmp.Ordering.TheVariants.{Less, Equal, Greater}
use Rattle.std.specs.List.{AllByRecursion, list_all}
use Rattle.std.specs.List.Sorted.{IsStrictlySortedBy}
use Rattle.std.specs.Option.{ForSome, option_map, option_map_or}
use Rattle.std.specs.Ordering.{is_lt, ordering_then}
use Rattle.std.proofs.lemmas.Bool.{and_from, and_parts, false≢true}
use Rattle.std.proofs.lemmas.List.{length-map}
use Rattle.std.proofs.lemmas.List.Elements.{All-weaker}
use Rattle.dev_core.specs.declared.post.Post.{Post}
use Rattle.dev_core.specs.Post.{post_key}
use Rattle.board.specs.Valid.{IsStateFor}
use Rattle.board.specs.View.{View}
use Rattle.lab_num.specs.declared.key.Key.{Key}
use Rattle.lab_num.specs.declared.key.Member.{Member}
use Rattle.lab_num.specs.Key.{key_cmp}
use Rattle.lab_num.specs.Name.{is_name}
use Rattle.log_text.specs.declared.line.OpenLine.{OpenLine}
use Rattle.lab_state.specs.Valid as valid
use Rattle.lab_snap.specs.declared.lab.SavedLab.{SavedLab}
use Rattle.lab_snap.specs.Inner.Parts as parts
use Rattle.lab_snap.specs.Inner.Parts.{AreValid, AreWaiting, FitTheirPlans, IsBoardAt, IsWaitingAt, delay_in, is_open}
use Rattle.lab_snap.specs.Inner.Parts.{machine_at}
use Rattle.lab_snap.specs.Loaded.{loaded, loaded_hub, loaded_view}
use Rattle.lab_snap.specs.Machine.{Machine}
use Rattle.lab_snap.specs.Rising.{is_before, rise}
use Rattle.lab_snap.proofs.DistinctLemmas.{names_are, names_distinct}
use Rattle.lab_snap.proofs.LoadedParts.{all_stand, all_standing, board_names, boards_count, delay_loaded}
use Rattle.lab_snap.proofs.LoadedParts.{hub_names, hubs_from, hubs_loaded, kind_loaded, members_loaded}
use Rattle.lab_snap.proofs.LoadedParts.{names_kept, view_loaded}
use Rattle.lab_snap.proofs.LoadedView.{shown_there}

-- ---- posts in order

before_last : (s t : Bool) → s ≡ is_lt (cond s Less (cond t Equal Greater))
before_last true t = refl
before_last false true = refl
before_last false false = refl

before_then : (s t b : Bool) (o : Ordering) → b ≡ is_lt o →
    (s || (t && b)) ≡ is_lt (ordering_then (cond s Less (cond t Equal Greater)) o)
before_then true t b o same = refl
before_then false true b o same = same
before_then false false b o same = refl

before_is : (a b : Key) → is_before a b ≡ is_lt (key_cmp a b)
before_is a b =
    before_then (nat_lt a.at.0 b.at.0) (a.at.0 == b.at.0) _ _
    (before_then (nat_lt a.board.0 b.board.0) (a.board.0 == b.board.0) _ _
    (before_last (nat_lt a.number.0 b.number.0) (a.number.0 == b.number.0)))

lower : (o : Ordering) → is_lt o ≡ true → o ≡ Less
lower Less is = refl
lower Equal is = absurd (false≢true is)
lower Greater is = absurd (false≢true is)

pub rises : (posts : List Post) → rise posts ≡ true → IsStrictlySortedBy key_cmp (map post_key posts)
unfolding IsStrictlySortedBy
rises [] is = tt
rises (post ∷ posts) is =
    let both = and_parts (list_all (λ later. is_before post.key later.key) posts) (rise posts) is in
    (all posts both.0, rises posts both.1)
  where
    all : (ps : List Post) → list_all (λ later. is_before post.key later.key) ps ≡ true →
        AllByRecursion (λ k. key_cmp post.key k ≡ Less) (map post_key ps)
    all [] e = tt
    all (p ∷ ps) e =
        let both = and_parts (is_before post.key p.key) (list_all (λ later. is_before post.key later.key) ps) e in
        (lower (key_cmp post.key p.key) (sym (before_is post.key p.key) ∙ both.0), all ps both.1)

pub rise_sorted : (posts : List Post) → IsStrictlySortedBy key_cmp (map post_key posts) → rise posts ≡ true
unfolding IsStrictlySortedBy
rise_sorted [] sorted = refl
rise_sorted (post ∷ posts) sorted =
    and_from (list_all (λ later. is_before post.key later.key) posts) (rise posts) (all posts sorted.0)
    (rise_sorted posts sorted.1)
  where
    all : (ps : List Post) → AllByRecursion (λ k. key_cmp post.key k ≡ Less) (map post_key ps) →
        list_all (λ later. is_before post.key later.key) ps ≡ true
    all [] h = refl
    all (p ∷ ps) h =
        and_from (is_before post.key p.key) (list_all (λ later. is_before post.key later.key) ps)
        (before_is post.key p.key ∙ ap is_lt h.0) (all ps h.1)

-- ---- posts that wait

waiting_loaded : (lab : SavedLab) (post : Post) → IsWaitingAt lab (unwrap_or (delay_in lab.hubs post.from) 0) post →
    valid.IsWaiting (loaded lab) post
waiting_loaded lab post waits = record {
  sent = waits.sent;
  due = rw (delay_loaded lab.hubs post.from) waits.due;
  own = waits.own;
  number =
      λ v found. by_machine v (machine_at lab.boards b) refl (sym (view_loaded 0 lab.boards b b (omega arith)) ∙ found);
  payload = λ kind found. waits.payload kind (sym (kind_loaded lab.boards post.from) ∙ found);
}
  where
    b : ℕ
    b = post.key.board.0

    by_machine : (v : View) (o : Option Machine) → machine_at lab.boards b ≡ o → option_map (loaded_view b) o ≡ Some v →
        post.key.number.0 < v.numbers.posted
    by_machine v None there e = absurd (cc)
    by_machine v (Some m) there e =
        subst (λ n. post.key.number.0 < n)
        (ap (λ (o : Option View). option_map_or (λ x. x.numbers.posted) o m.state.posted) e) (waits.number m there)

waiting_from : (lab : SavedLab) (post : Post) → valid.IsWaiting (loaded lab) post →
    IsWaitingAt lab (unwrap_or (delay_in lab.hubs post.from) 0) post
waiting_from lab post waits =
    let b = post.key.board.0 in
    record {
      sent = waits.sent;
      due = rw (delay_loaded lab.hubs post.from) at waits.due;
      own = waits.own;
      number = λ m found.
          waits.number (loaded_view b m)
          (view_loaded 0 lab.boards b b (omega arith) ∙ ap (option_map (loaded_view b)) found);
      payload = λ kind found. waits.payload kind (kind_loaded lab.boards post.from ∙ found);
    }

-- ---- open lines

open_loaded : (lab : SavedLab) (line : OpenLine) →
    valid.is_shown_before (loaded lab) lab.time.0 line.member line.at ≡ is_open lab line
open_loaded lab line =
    let b = line.member.board.0 in
    rw (view_loaded 0 lab.boards b b (omega arith))
    (ap (λ shown. shown && nat_lt line.at.0 lab.time.0) (by_machine (machine_at lab.boards b)))
  where
    by_machine : (o : Option Machine) →
        option_map_or (λ v. valid.is_shown_uart v line.member.dev) (option_map (loaded_view line.member.board.0) o)
        false
        ≡ option_map_or (λ m. parts.is_shown_uart m line.member.dev) o false
    by_machine None = refl
    by_machine (Some m) = shown_there m.state.devices m.state.shown line.member.dev

-- ---- all of it

pub valid_of : (lab : SavedLab) → AreValid lab → valid.IsValid (loaded lab) lab.lines
valid_of lab are =
    let time = lab.time.0 in
    record {
      lab =
          record {
            board_names =
                names_kept 0 lab.boards
                (All-weaker (IsBoardAt time) (λ board. IsTrue (is_name board.name)) (λ board is. is.name) lab.boards
                are.boards.each);
            names = rw (board_names 0 lab.boards, hub_names lab.hubs) (names_are _ _ are.names);
            few_boards = rw (boards_count 0 lab.boards) are.boards.few;
            few_hubs = rw (length-map lab.hubs loaded_hub) are.hubs.few;
            boards = λ b v found. all_standing time 0 lab.boards are.boards.each b b v (omega arith) found;
            hubs = hubs_loaded lab.boards lab.hubs are.hubs.each;
            once = rw (members_loaded lab.hubs) are.once;
            last = are.times.last;
            least_quantum = are.times.least_quantum;
            most_quantum = are.times.most_quantum;
            rising = rises lab.pending are.posts.rising;
            pending =
                All-weaker (λ post. IsWaitingAt lab (unwrap_or (delay_in lab.hubs post.from) 0) post)
                (valid.IsWaiting (loaded lab)) (λ post is. waiting_loaded lab post is) lab.pending are.posts.each;
          };
      lines =
          record {
            unended = are.lines.unended;
            each =
                All-weaker (λ line. IsTrue (is_open lab line)) (valid.IsOpen (loaded lab))
                (λ line is. open_loaded lab line ∙ is) lab.lines are.lines.each;
          };
    }

pub fit_of : (lab : SavedLab) → AreValid lab → FitTheirPlans lab.boards
fit_of lab are =
    All-weaker (IsBoardAt lab.time.0) (λ board. ForSome board.machine (λ m. IsStateFor m.plan m.state))
    (λ board is m there. (is.machine m there).state) lab.boards are.boards.each

pub parts_of : (lab : SavedLab) → FitTheirPlans lab.boards → valid.IsValid (loaded lab) lab.lines → AreValid lab
parts_of lab fit all =
    let time = lab.time.0 in
    let own = all.lab in
    record {
      times = record { last = own.last; least_quantum = own.least_quantum; most_quantum = own.most_quantum };
      names = names_distinct _ _ (rw (board_names 0 lab.boards, hub_names lab.hubs) at own.names);
      boards =
          record {
            few = rw (boards_count 0 lab.boards) at own.few_boards;
            each =
                all_stand time 0 lab.boards own.board_names fit
                (λ b k v is found.
                subst (λ i. valid.IsStanding time i v) (let here : b ≡ k = omega (arith, is) in here)
                (own.boards b v found));
          };
      hubs =
          record {
            few = rw (length-map lab.hubs loaded_hub) at own.few_hubs;
            each = hubs_from lab.boards lab.hubs own.hubs;
          };
      once = rw (members_loaded lab.hubs) at own.once;
      posts =
          record {
            rising = rise_sorted lab.pending own.rising;
            each =
                All-weaker (valid.IsWaiting (loaded lab))
                (λ post. IsWaitingAt lab (unwrap_or (delay_in lab.hubs post.from) 0) post)
                (λ post waits. waiting_from lab post waits) lab.pending own.pending;
          };
      lines =
          record {
            unended = all.lines.unended;
            each =
                All-weaker (valid.IsOpen (loaded lab)) (λ line. IsTrue (is_open lab line))
                (λ line seen. sym (open_loaded lab line) ∙ seen) lab.lines all.lines.each;
          };
    }

-- delays that are told otherwise
pub posts_by : (lab : SavedLab) (f g : Member → ℕ) → ((m : Member) → f m ≡ g m) → AreWaiting lab f → AreWaiting lab g
posts_by lab f g same waiting = record {
  rising = waiting.rising;
  each =
      All-weaker (λ post. IsWaitingAt lab (f post.from) post) (λ post. IsWaitingAt lab (g post.from) post)
      (λ post own. subst (λ delay. IsWaitingAt lab delay post) (same post.from) own) lab.pending waiting.each;
}
