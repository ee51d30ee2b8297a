-- The members of the source of time are the boards.
use Rattle.std.proofs.Common.{◌≡◌, ◌∙◌, sym, ap, refl, ℕ, ◌+◌, ◌-◌, ◌*◌, ◌<◌, ◌≤◌, List, [], ◌∷◌, ◌++◌, length}
use Rattle.std.proofs.Common.{map, set, get_or, false, take, drop, slice_get, Option, None, Some, arith}
use Rattle.std.specs.Prelude.{◌↔◌, IsNone, OnSome}
use Rattle.lab_num.specs.declared.number.BoardNo.{BoardNo}
use Rattle.std.proofs.lemmas.List.{length-map, map-append, map-set}
use Rattle.std.proofs.lemmas.List.Elements.{All-map}
use Rattle.std.proofs.lemmas.Option.{slice_get-map, slice_get-get_or, same_Some}
use Rattle.std.proofs.lemmas.Simd.{map-map}
use Rattle.std.specs.Option.{option_map}
use Rattle.std.proofs.Math.Nat.{mul-le-mul_left}
use Rattle.lab_num.specs.Paid.{paid}
use Rattle.board.specs.Numbers.{Numbers}
use Rattle.time_handle.specs.Grant.{Grant, fresh, left}
use Rattle.time_source.specs.Tree.{Tree, IsDone, elapsed, with_member, with_speed, granted}
use Rattle.lab_state.specs.Board.{Board}
use Rattle.lab_state.specs.Inner.Time.{number_of, numbers_of, speed_of, part_of, used_up, IsStanding, StandsAt}
use Rattle.lab_state.specs.Inner.Time.{AreStanding, IsTimed}
use Rattle.lab_state.proofs.ListLemmas.{each-set, each-push, not_yet}

abbrev speed : Grant → ℕ
speed g = g.speed

-- a board gets at most a thousand slots a microsecond
pub few_slots : (from q speed : ℕ) → speed ≤ 1000 → paid from (from + q) speed ≤ 1000 * q
few_slots from q speed fast =
    let span : from + q - from ≡ q = omega arith in
    rw span (omega (arith, mul-le-mul_left q fast))

module _ {source : Tree} {numbers : List (Option Numbers)} (timed : IsTimed source numbers) where
  -- the time that has passed
  pub at_end : elapsed source ≡ source.end
  at_end = rw timed.closed refl

  -- a board without a plan more
  pub timed-push : IsTimed (with_member source 1) (numbers ++ None ∷ [])
  timed-push = record {
    closed = timed.closed;
    speeds =
        map-append speed source.handles _ ∙ ap (λ speeds. speeds ++ 1 ∷ []) timed.speeds
        ∙ sym (map-append speed_of numbers (None ∷ []));
    standing = each-push (StandsAt (1000 * source.end)) numbers None (λ n at. absurd (cc)) timed.standing;
  }

  -- a board and its member at another speed
  pub timed-set :
      (i : ℕ) (n : Numbers) → IsStanding (1000 * source.end) i n →
      IsTimed (with_speed source i n.speed) (set numbers i (Some n))
  timed-set i n stands = record {
    closed = timed.closed;
    speeds =
        map-set speed source.handles i _ ∙ ap (λ speeds. set speeds i n.speed) timed.speeds
        ∙ sym (map-set speed_of numbers i (Some n));
    standing =
        each-set (StandsAt (1000 * source.end)) numbers i (Some n) (λ m at. rw (← same n m at) stands) timed.standing;
  }
    where
      same : (n m : Numbers) → Some (Some n) ≡ Some (Some m) → n ≡ m
      same n m at = cc

module _ {source : Tree} (boards : List Board) (timed : IsTimed source (numbers_of boards)) where
  -- a member for each board
  pub as_many : length source.handles ≡ length boards
  as_many =
      sym (length-map source.handles speed) ∙ ap length timed.speeds ∙ length-map (numbers_of boards) speed_of
      ∙ length-map boards number_of

  -- which the source takes in
  pub joined :
      {next : Tree} (member : Option BoardNo) → IsNone member ↔ (length source.handles ≡ 16) →
      OnSome member (next ≡ with_member source 1) → length boards < 16 → next ≡ with_member source 1
  joined None full added room = absurd (omega (arith, as_many, full.0 refl))
  joined (Some board) full added room = added

  -- ---- a grant to all members

  module _ (q : ℕ) where
    -- each has its part
    pub parts : (granted source q).handles ≡ map (part_of source.end (source.end + q)) boards
    parts =
        let part = fresh source.end (source.end + q) in
        sym (map-map part speed source.handles) ∙ ap (map part) timed.speeds ∙ map-map part speed_of (numbers_of boards)
        ∙ map-map (λ n. part (speed_of n)) number_of boards

    -- which is used up
    pub done : IsDone (record (granted source q) { handles = map used_up (granted source q).handles })
    done =
        All-map (λ (g : Grant). left g ≡ 0) used_up (granted source q).handles
        (λ k d below. used_up-left (get_or (granted source q).handles k d))
      where
        used_up-left : (g : Grant) → left (used_up g) ≡ 0
        used_up-left g = omega arith

    -- and then the boards of these numbers have the time after it
    pub timed-granted :
        (numbers : List (Option Numbers)) → map speed_of numbers ≡ map speed_of (numbers_of boards) →
        AreStanding (1000 * (source.end + q)) numbers →
        IsTimed (record (granted source q) { handles = map used_up (granted source q).handles; is_open = false })
        numbers
    timed-granted numbers same standing = record {
      closed = refl;
      speeds =
          map-map speed used_up (granted source q).handles ∙ ap (map speed) parts
          ∙ map-map speed (part_of source.end (source.end + q)) boards
          ∙ sym (map-map speed_of number_of boards) ∙ sym same;
      standing = standing;
    }

-- the part of the board that a loop comes to next
pub part_at :
    (boards : List Board) {now : List Board} {handles : List Grant} (part : Board → Grant) (step : Board → Board)
    (i : ℕ) (d : Board) {g : Grant} →
    handles ≡ map part boards → now ≡ map step (take i boards) ++ drop i boards → i < length boards →
    slice_get handles i ≡ Some g → g ≡ part (get_or now i d)
part_at boards part step i d {g = g} parts so_far below at =
    same_Some g _
    (sym at ∙ ap (λ gs. slice_get gs i) parts ∙ slice_get-map part boards i
    ∙ ap (option_map part) (slice_get-get_or boards i d below))
    ∙ ap part (sym (ap (λ bs. get_or bs i d) so_far ∙ not_yet step boards i d))
