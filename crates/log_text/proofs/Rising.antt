-- Open lines that rise by member.
use Rattle.std.proofs.Common.{◌≡◌, ◌∙◌, ℕ, zero, suc, ◌+◌, ◌-◌, ◌<◌, ◌≤◌, Bool, true, false, not, ◌==◌, ◌&&◌, nat_lt}
use Rattle.std.proofs.Common.{Option, unwrap_or, List, [], ◌∷◌, ◌++◌, length, get_or, take, drop, filter, refl, sym, ap}
use Rattle.std.proofs.Common.{subst, inl, inr, append_assoc, arith, length-append, set}
use Rattle.std.proofs.lemmas.List.{drop_at, drop_more, get_or_default, length-take-le, set_split, set-get_or, take_at}
use Rattle.std.specs.List.{list_all, list_any}
use Rattle.std.proofs.lemmas.Bool.{cases_Bool, and_parts, and_from, and_cases, ltb-true, ltb-false}
use Rattle.std.proofs.lemmas.Bool.Decides.{nat_tests}
use Rattle.std.proofs.lemmas.List.Folds.{list_all-append, list_any-append}
use Rattle.std.proofs.lemmas.Bool.{not-true}
use Rattle.lab_num.specs.declared.key.Member.{Member}
use Rattle.lab_num.specs.declared.number.Micros.{Micros}
use Rattle.lab_num.specs.Key.{same_member}
use Rattle.lab_num.proofs.KeyLemmas.{same_itself, member_is}
use Rattle.lab_num.proofs.ListLemmas.{implied}
use Rattle.log_text.specs.declared.line.OpenLine.{OpenLine}
use Rattle.log_text.specs.Line.{are_unended, blank, gathered, higher, is_ending, is_lower, is_unended, lower, own, rise}
use Rattle.log_text.specs.Line.{with_byte}
use Rattle.log_text.specs.Inner.Place.{goes_on, place_of, stands_at}
use Rattle.log_text.proofs.Parts.{Apart, Found, Parted, Unfound, found, unfound, low_count, filter_passes, find_keeps}
use Rattle.log_text.proofs.Parts.{find_passes, list_all-filter, list_all-weaker}

-- ---- the order of members

lower_trans : (a b c : Member) → is_lower a b ≡ true → is_lower b c ≡ true → is_lower a c ≡ true
lower_trans a b c first second = grind (arith, nat_tests)

lower_not_same : (a m : Member) → is_lower a m ≡ true → same_member a m ≡ false
lower_not_same a m is = grind (arith, nat_tests)

higher_not_same : (a m : Member) → is_lower m a ≡ true → same_member a m ≡ false
higher_not_same a m is = grind (arith, nat_tests)

lower_not_higher : (a m : Member) → is_lower a m ≡ true → is_lower m a ≡ false
lower_not_higher a m is = grind (arith, nat_tests)

same_not_higher : (a m : Member) → same_member a m ≡ true → is_lower m a ≡ false
same_not_higher a m is = grind (arith, nat_tests)

one_of_three : (a m : Member) → is_lower a m ≡ false → same_member a m ≡ false → is_lower m a ≡ true
one_of_three a m not_lower not_same = grind (arith, nat_tests)

above_what_is_not_lower : (a m b : Member) → is_lower a m ≡ false → is_lower a b ≡ true → is_lower m b ≡ true
above_what_is_not_lower a m b not_lower below = grind (arith, nat_tests)

below_what_is_not_lower : (a m b : Member) → is_lower a m ≡ true → not (is_lower b m) ≡ true → is_lower a b ≡ true
below_what_is_not_lower a m b below not_lower = grind (arith, nat_tests)

higher_not_lower : (a m : Member) → is_lower m a ≡ true → not (is_lower a m) ≡ true
higher_not_lower a m is = grind (arith, nat_tests)

not_lower_itself : (m : Member) → not (is_lower m m) ≡ true
not_lower_itself m = grind (arith, nat_tests)

-- ---- what stands before and after a member's own line

pub apart :
    (m : Member) →
    Apart (λ (line : OpenLine). is_lower line.member m) (λ line. same_member line.member m)
    (λ line. is_lower m line.member)
apart m = record {
  low_own = λ line is. lower_not_same line.member m is;
  low_high = λ line is. lower_not_higher line.member m is;
  own_high = λ line is. same_not_higher line.member m is;
  high_low = λ line is. lower_not_higher m line.member is;
  high_own = λ line is. higher_not_same line.member m is;
  one = λ line not_lower not_same. one_of_three line.member m not_lower not_same;
}

pub parted :
    (m : Member) (lines : List OpenLine) → rise lines ≡ true →
    Parted (λ (line : OpenLine). is_lower line.member m) (λ line. is_lower m line.member) lines
parted m [] up = tt
parted m (line ∷ lines) up =
    let parts = and_parts (list_all (λ later. is_lower line.member later.member) lines) (rise lines) up in (
      λ not_lower. list_all-weaker (λ later. is_lower line.member later.member) (λ later. is_lower m later.member)
          (λ later below. above_what_is_not_lower line.member m later.member not_lower below) lines parts.0,
      parted m lines parts.1,
    )

-- ---- which lines rise

pub rise-filter : (q : OpenLine → Bool) (lines : List OpenLine) → rise lines ≡ true → rise (filter q lines) ≡ true
rise-filter q [] up = refl
rise-filter q (line ∷ lines) up =
    let parts = and_parts (list_all (λ later. is_lower line.member later.member) lines) (rise lines) up in
    elim (cases_Bool (q line)) [
      | inl is ↦ rw is (and_from (list_all (λ later. is_lower line.member later.member) (filter q lines))
          (rise (filter q lines)) (list_all-filter (λ later. is_lower line.member later.member) q lines parts.0)
          (rise-filter q lines parts.1))
      | inr is ↦ rw is (rise-filter q lines parts.1)
    ]

rise-append :
    (m : Member) (front back : List OpenLine) → rise front ≡ true → rise back ≡ true →
    list_all (λ line. is_lower line.member m) front ≡ true →
    list_all (λ line. not (is_lower line.member m)) back ≡ true → rise (front ++ back) ≡ true
rise-append m [] back up_front up_back below above = up_back
rise-append m (line ∷ front) back up_front up_back below above =
    let up = and_parts (list_all (λ later. is_lower line.member later.member) front) (rise front) up_front in
    let lows = and_parts (is_lower line.member m) (list_all (λ line. is_lower line.member m) front) below in
    let beyond =
    list_all-weaker (λ later. not (is_lower later.member m)) (λ later. is_lower line.member later.member)
    (λ later not_lower. below_what_is_not_lower line.member m later.member lows.0 not_lower) back above in
    and_from (list_all (λ later. is_lower line.member later.member) (front ++ back)) (rise (front ++ back))
    (list_all-append (λ later. is_lower line.member later.member) front back
    ∙ and_from (list_all (λ later. is_lower line.member later.member) front)
    (list_all (λ later. is_lower line.member later.member) back) up.0 beyond)
    (rise-append m front back up.1 up_back lows.1 above)

-- it is enough to compare each line with the next
rise_two :
    (a b : OpenLine) (lines : List OpenLine) →
    rise (a ∷ b ∷ lines) ≡ (is_lower a.member b.member && rise (b ∷ lines))
rise_two a b lines =
    implied (is_lower a.member b.member) (list_all (λ line. is_lower a.member line.member) lines)
    (list_all (λ line. is_lower b.member line.member) lines) (rise lines)
    (λ first above. list_all-weaker (λ line. is_lower b.member line.member) (λ line. is_lower a.member line.member)
    (λ line is. lower_trans a.member b.member line.member first is) lines above)

rise_step :
    (lines : List OpenLine) (n i : ℕ) (d : OpenLine) → n + 1 ≡ i → i < length lines →
    rise (drop n lines) ≡ (is_lower (get_or lines n d).member (get_or lines i d).member && rise (drop i lines))
rise_step lines n i d next within =
    let second : drop i lines ≡ get_or lines i d ∷ drop (i + 1) lines = drop_more lines i d within in
    let first : drop n lines ≡ get_or lines n d ∷ drop i lines =
    subst (λ (k : ℕ). drop n lines ≡ get_or lines n d ∷ drop k lines) next (drop_more lines n d (omega arith)) in
    rw (first, second) (rise_two (get_or lines n d) (get_or lines i d) (drop (i + 1) lines))

-- a line that is lower than the next is passed
pub rise_past :
    (lines : List OpenLine) (i : ℕ) (d e : OpenLine) → 1 ≤ i → i < length lines →
    is_lower (get_or lines (i - 1) d).member (get_or lines i e).member ≡ true →
    rise lines ≡ rise (drop (i - 1) lines) → rise lines ≡ rise (drop (i + 1 - 1) lines)
rise_past lines i d e from within lower so_far =
    let same : get_or lines i e ≡ get_or lines i d = get_or_default lines i e d within in
    let lower_here : is_lower (get_or lines (i - 1) d).member (get_or lines i d).member ≡ true = rw same at lower in
    let step : rise (drop (i - 1) lines) ≡ rise (drop i lines) =
    rise_step lines (i - 1) i d (omega arith) within
    ∙ ap (λ b. b && rise (drop i lines)) lower_here in
    let back : i + 1 - 1 ≡ i = omega arith in
    rw back (so_far ∙ step)

rise_end : (lines : List OpenLine) (n : ℕ) → length lines ≤ n + 1 → rise (drop n lines) ≡ true
rise_end [] zero past = refl
rise_end [] (suc n) past = refl
rise_end (a ∷ []) zero past = refl
rise_end (a ∷ b ∷ lines) zero past = absurd (omega arith)
rise_end (a ∷ lines) (suc n) past = rise_end lines n (omega arith)

-- at the end all were lower than the next
pub rise_all :
    (lines : List OpenLine) (i : ℕ) → length lines ≤ i → rise lines ≡ rise (drop (i - 1) lines) → true ≡ rise lines
rise_all lines i past so_far = sym (so_far ∙ rise_end lines (i - 1) (omega arith))

-- ---- open lines without a member's own, and with it

unended_parts :
    (lines : List OpenLine) → are_unended lines ≡ true → (list_all is_unended lines ≡ true) × (rise lines ≡ true)
unended_parts lines are = and_parts (list_all is_unended lines) (rise lines) are

-- lower lines, some that are not lower, all of them unended
unended-append :
    (m : Member) (lines back : List OpenLine) → are_unended lines ≡ true → are_unended back ≡ true →
    list_all (λ line. not (is_lower line.member m)) back ≡ true → are_unended (lower m lines ++ back) ≡ true
unended-append m lines back are are_back above =
    let parts = unended_parts lines are in
    let backs = unended_parts back are_back in
    let kept = list_all-filter is_unended (λ line. is_lower line.member m) lines parts.0 in
    and_from (list_all is_unended (lower m lines ++ back)) (rise (lower m lines ++ back))
    (list_all-append is_unended (lower m lines) back
    ∙ and_from (list_all is_unended (lower m lines)) (list_all is_unended back) kept backs.0)
    (rise-append m (lower m lines) back (rise-filter (λ line. is_lower line.member m) lines parts.1) backs.1
    (filter_passes (λ line. is_lower line.member m) lines) above)

higher_above :
    (m : Member) (lines : List OpenLine) → list_all (λ line. not (is_lower line.member m)) (higher m lines) ≡ true
higher_above m lines =
    list_all-weaker (λ (line : OpenLine). is_lower m line.member) (λ line. not (is_lower line.member m))
    (λ line is. higher_not_lower line.member m is) (higher m lines)
    (filter_passes (λ line. is_lower m line.member) lines)

higher_unended : (m : Member) (lines : List OpenLine) → are_unended lines ≡ true → are_unended (higher m lines) ≡ true
higher_unended m lines are =
    let parts = unended_parts lines are in
    and_from (list_all is_unended (higher m lines)) (rise (higher m lines))
    (list_all-filter is_unended (λ line. is_lower m line.member) lines parts.0)
    (rise-filter (λ line. is_lower m line.member) lines parts.1)

pub others_unended :
    (m : Member) (lines : List OpenLine) → are_unended lines ≡ true →
    are_unended (lower m lines ++ higher m lines) ≡ true
others_unended m lines are =
    unended-append m lines (higher m lines) are (higher_unended m lines are) (higher_above m lines)

-- a line of the member between the others
pub between_unended :
    (m : Member) (lines : List OpenLine) (line : OpenLine) → are_unended lines ≡ true → is_unended line ≡ true →
    line.member ≡ m → are_unended (lower m lines ++ line ∷ higher m lines) ≡ true
between_unended m lines line are is of =
    let highs = unended_parts (higher m lines) (higher_unended m lines are) in
    let above : list_all (λ later. is_lower line.member later.member) (higher m lines) ≡ true =
    rw of (filter_passes (λ later. is_lower m later.member) lines) in
    let here : not (is_lower line.member m) ≡ true = rw of (not_lower_itself m) in
    unended-append m lines (line ∷ higher m lines) are
    (and_from (list_all is_unended (line ∷ higher m lines)) (rise (line ∷ higher m lines))
    (and_from (is_unended line) (list_all is_unended (higher m lines)) is highs.0)
    (and_from (list_all (λ later. is_lower line.member later.member) (higher m lines)) (rise (higher m lines)) above
    highs.1))
    (and_from (not (is_lower line.member m)) (list_all (λ line. not (is_lower line.member m)) (higher m lines)) here
    (higher_above m lines))

-- ---- a member's own line

pub own_member : (m : Member) (lines : List OpenLine) → (own m lines).member ≡ m
own_member m lines =
    member_is (own m lines).member m
    (find_passes (λ (line : OpenLine). same_member line.member m) lines (blank m) (same_itself m))

abbrev has_no_feed : OpenLine → Bool
has_no_feed line = not (list_any (λ byte. byte == 10) line.bytes)

no_feed : (line : OpenLine) → is_unended line ≡ true → has_no_feed line ≡ true
no_feed line is = grind arith

pub own_no_feed : (m : Member) (lines : List OpenLine) → are_unended lines ≡ true → has_no_feed (own m lines) ≡ true
own_no_feed m lines are =
    find_keeps has_no_feed (λ line. same_member line.member m) lines (blank m) refl
    (list_all-weaker is_unended has_no_feed no_feed lines (unended_parts lines are).0)

-- a byte that ends no line leaves it open
gathered_unended :
    (line : OpenLine) (at : Micros) (byte : ℕ) → has_no_feed line ≡ true → is_ending line byte ≡ false →
    is_unended (gathered line at byte) ≡ true
gathered_unended line at byte none goes_on = grind (arith, nat_tests, list_any-append, length-append)

-- ---- a line that is as it was

pub kept :
    (lines : List OpenLine) (n : ℕ) (line after : OpenLine) → line ≡ get_or lines n line → after ≡ line →
    set lines n after ≡ lines
kept lines n line after is same = ap (set lines n) (same ∙ is) ∙ set-get_or lines n line

-- ---- taking a member's own line out, and putting one in

module _ (m : Member) (lines : List OpenLine) (n : ℕ) (at : n ≡ place_of m lines) (are : are_unended lines ≡ true) where
  split : Parted (λ (line : OpenLine). is_lower line.member m) (λ line. is_lower m line.member) lines
  split = parted m lines (unended_parts lines are).1

  stands_parts :
      stands_at m lines n ≡ true → (n < length lines) × (same_member (get_or lines n (blank m)).member m ≡ true)
  stands_parts stands =
      let parts = and_parts (nat_lt n (length lines)) (same_member (get_or lines n (blank m)).member m) stands in
      (ltb-true n (length lines) parts.0, parts.1)

  standing :
      stands_at m lines n ≡ true →
      Found (λ (line : OpenLine). is_lower line.member m) (λ line. same_member line.member m)
      (λ line. is_lower m line.member) (apart m) lines (blank m) n
  standing stands =
      let parts = stands_parts stands in
      found (λ (line : OpenLine). is_lower line.member m) (λ line. same_member line.member m)
      (λ line. is_lower m line.member) (apart m) lines (blank m) n (sym at) split parts.0 parts.1

  pub taken_own :
      (line : OpenLine) → stands_at m lines n ≡ true → line ≡ get_or lines n line → line ≡ own m lines
  taken_own line stands is =
      let within = (stands_parts stands).0 in
      is ∙ get_or_default lines n line (blank m) within
      ∙ sym (ap (λ (o : Option OpenLine). unwrap_or o (blank m)) (standing stands).first)

  pub standing_own : stands_at m lines n ≡ true → get_or lines n (blank m) ≡ own m lines
  standing_own stands =
      sym (ap (λ (o : Option OpenLine). unwrap_or o (blank m)) (standing stands).first)

  pub taken_others : stands_at m lines n ≡ true → take n lines ++ drop (suc n) lines ≡ lower m lines ++ higher m lines
  taken_others stands = sym (standing stands).others

  absent :
      stands_at m lines n ≡ false →
      Unfound (λ (line : OpenLine). is_lower line.member m) (λ line. same_member line.member m)
      (λ line. is_lower m line.member) (apart m) lines
  absent stands =
      unfound (λ (line : OpenLine). is_lower line.member m) (λ line. same_member line.member m)
      (λ line. is_lower m line.member) (apart m) lines n (sym at) split
      (λ within d. ap (λ (line : OpenLine). same_member line.member m) (get_or_default lines n d (blank m) within)
      ∙ elim (and_cases (nat_lt n (length lines)) (same_member (get_or lines n (blank m)).member m) stands) [
        | inl past ↦ absurd (let e : length lines ≤ n = ltb-false n (length lines) past in omega arith)
        | inr other ↦ other
      ])

  pub absent_own : stands_at m lines n ≡ false → blank m ≡ own m lines
  absent_own stands = sym (ap (λ (o : Option OpenLine). unwrap_or o (blank m)) (absent stands).first)

  pub absent_others : stands_at m lines n ≡ false → lines ≡ lower m lines ++ higher m lines
  absent_others stands = sym (absent stands).others

  lower_count : n ≡ length (lower m lines)
  lower_count =
      at ∙ low_count (λ (line : OpenLine). is_lower line.member m) (λ line. same_member line.member m)
      (λ line. is_lower m line.member) (apart m) lines split

  pub place_within : n ≤ length (lower m lines ++ higher m lines)
  place_within = omega (arith, length-append (lower m lines) (higher m lines), lower_count)

  put_between :
      (line : OpenLine) →
      take n (lower m lines ++ higher m lines) ++ line ∷ drop n (lower m lines ++ higher m lines)
      ≡ lower m lines ++ line ∷ higher m lines
  put_between line =
      rw (
        take_at (lower m lines) (higher m lines) n (sym lower_count),
        drop_at (lower m lines) (higher m lines) n (sym lower_count),
      ) refl

-- a byte that ends no line, taken into the member's own line, which is put in its place among the others
module _ (m : Member) (lines : List OpenLine) (n : ℕ) (at : n ≡ place_of m lines) (are : are_unended lines ≡ true)
    (time : Micros) (byte : ℕ) where
  pub put_back :
      (others : List OpenLine) (taken longer : OpenLine) → others ≡ lower m lines ++ higher m lines →
      taken ≡ own m lines → longer ≡ gathered taken time byte → is_ending taken byte ≡ false →
      take n others ++ longer ∷ drop n others ≡ with_byte lines m time byte
  put_back others taken longer left is_own is_longer goes_on =
      let longer_own = gathered (own m lines) time byte in
      let goes_on_own : is_ending (own m lines) byte ≡ false = rw is_own at goes_on in
      rw (left, is_longer, is_own, goes_on_own)
      (put_between m lines n at are longer_own
      ∙ sym (append_assoc (lower m lines) (longer_own ∷ []) (higher m lines)))

  pub with_byte_unended :
      (taken : OpenLine) → taken ≡ own m lines → is_ending taken byte ≡ false →
      are_unended (with_byte lines m time byte) ≡ true
  with_byte_unended taken is_own goes_on =
      let longer_own = gathered (own m lines) time byte in
      let goes_on_own : is_ending (own m lines) byte ≡ false = rw is_own at goes_on in
      subst (λ (after : List OpenLine). are_unended after ≡ true)
      (sym (put_between m lines n at are longer_own)
      ∙ put_back (lower m lines ++ higher m lines) (own m lines) longer_own refl refl refl goes_on_own)
      (between_unended m lines longer_own are
      (gathered_unended (own m lines) time byte (own_no_feed m lines are) goes_on_own) (own_member m lines))

  -- a byte that ends no line, added to the member's own line in its place
  module _ (goes : goes_on m lines n byte ≡ true) where
    goes_parts : (stands_at m lines n ≡ true) × (is_ending (get_or lines n (blank m)) byte ≡ false)
    goes_parts =
        let parts = and_parts (stands_at m lines n) (not (is_ending (get_or lines n (blank m)) byte)) goes in
        (parts.0, not-true (is_ending (get_or lines n (blank m)) byte) parts.1)

    pub goes_within : n < length lines
    goes_within = (stands_parts m lines n at are goes_parts.0).0

    pub goes_open : is_ending (own m lines) byte ≡ false
    goes_open =
        subst (λ (line : OpenLine). is_ending line byte ≡ false) (standing_own m lines n at are goes_parts.0)
        goes_parts.1

    module _ (taken longer : OpenLine) (is : taken ≡ get_or lines n taken)
        (made : longer ≡ gathered taken time byte) where
      pub lengthened : set lines n longer ≡ with_byte lines m time byte
      lengthened =
          let is_own : taken ≡ own m lines = taken_own m lines n at are taken goes_parts.0 is in
          let others = take n lines ++ drop (suc n) lines in
          let count : length (take n lines) ≡ n = length-take-le n lines (omega (arith, goes_within)) in
          let same : take n others ++ longer ∷ drop n others ≡ take n lines ++ longer ∷ drop (suc n) lines =
          rw (
            take_at (take n lines) (drop (suc n) lines) n count,
            drop_at (take n lines) (drop (suc n) lines) n count,
          ) refl in
          set_split lines n longer goes_within ∙ sym same
          ∙ put_back others taken longer (taken_others m lines n at are goes_parts.0) is_own made
          (subst (λ (line : OpenLine). is_ending line byte ≡ false) (sym is_own) goes_open)

      pub lengthened_unended : are_unended (set lines n longer) ≡ true
      lengthened_unended =
          subst (λ (after : List OpenLine). are_unended after ≡ true) (sym lengthened)
          (with_byte_unended (own m lines) refl goes_open)
