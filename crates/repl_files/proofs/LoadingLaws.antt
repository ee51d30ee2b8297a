-- What holds of every loading, by its parts.
use Rattle.std.proofs.Common.{◌≡◌, ◌∷◌, ◌++◌, ◌+◌, ◌-◌, ◌<◌, ◌≤◌, ◌∙◌, ℕ, zero, suc, nat_le, nat_lt, if◌then◌else◌}
use Rattle.std.proofs.Common.{Bool, true, false, List, [], length, Result, Ok, Err, Option, None, Some, IsSome, IsNone}
use Rattle.std.proofs.Common.{refl, sym, ap, append_assoc}
use Rattle.std.proofs.Common.{length-append, append-nil, arith}
use Rattle.std.specs.List.{slice_get, All}
use Rattle.std.specs.Str.{is_utf8}
use Rattle.std.specs.FinMap.{get}
use Rattle.std.proofs.lemmas.Bool.Decides.{nat_tests}
use Rattle.std.proofs.lemmas.List.Elements.{All-nil, All-cons, All-append}
use Rattle.lab_io.specs.Held.{Held}
use Rattle.lab_io.specs.Whole.{bad_line}
use Rattle.lab_io.specs.Whole as text
use Rattle.repl_read.specs.declared.entry.Entry.{Entry}
use Rattle.repl_read.specs.Platform.{LineFault, platform}
use Rattle.repl_files.specs.declared.fault.FileCause.TheVariants.{Depth, Size}
use Rattle.repl_files.specs.Content.{Content, Missing, Large, Faulty, Readable, content_by, text_content, content_of}
use Rattle.repl_files.specs.Laws.{IsHeld, AllHeld, EndsBy, IsFrom, AllFrom}
use Rattle.repl_files.specs.Loading.{Gives, Use, Loading, Outcome, Joined, Refused, Oversized, Absent, stopped}
use Rattle.repl_files.specs.Loading.{refused_at, joined, go_on, used_file, one_by, one, in_order, file_read, used, load}
use Rattle.lab_num.proofs.ListLemmas.{get_middle}

-- these names stand in a whole list after so many others
record Within (all : List (List ℕ)) (count : ℕ) (names : List (List ℕ)) : Type 0 where
  before : List (List ℕ)
  behind : List (List ℕ)
  whole : all ≡ before ++ (names ++ behind)
  counted : length before ≡ count

within_front : (all : List (List ℕ)) (count : ℕ) (names more : List (List ℕ)) →
    Within all count (names ++ more) → Within all count names
within_front all count names more is = record {
  before = is.before;
  behind = more ++ is.behind;
  whole = is.whole ∙ ap (λ rest. is.before ++ rest) (append_assoc names more is.behind);
  counted = is.counted;
}

within_rest : (all : List (List ℕ)) (count : ℕ) (names more : List (List ℕ)) →
    Within all count (names ++ more) → Within all (count + length names) more
within_rest all count names more is = record {
  before = is.before ++ names;
  behind = is.behind;
  whole = is.whole ∙ rw (append_assoc names more is.behind, append_assoc is.before names (more ++ is.behind)) refl;
  counted = length-append is.before names ∙ ap (λ n. n + length names) is.counted;
}

first_at : (all : List (List ℕ)) (count : ℕ) (name : List ℕ) (more : List (List ℕ)) →
    Within all count (name ∷ more) → slice_get all count ≡ Some name
first_at all count name more is = rw (is.whole, ← is.counted) (get_middle is.before name (more ++ is.behind))

-- what a name holds, by what it is to a loading
HeldBy : Content → Option (List ℕ) → Type 0
HeldBy Missing there = IsNone there
HeldBy Large there = IsSome there
HeldBy (Faulty line cause) there = IsSome there
HeldBy (Readable entries) there = IsSome there

by_read : (read : Result (List Entry) LineFault) (bytes : List ℕ) → HeldBy (text_content read) (Some bytes)
unfolding HeldBy
by_read (Ok entries) bytes = refl
by_read (Err fault) bytes = refl

by_text : (a b : Bool) (line : ℕ) (bytes : List ℕ) →
    HeldBy (content_by (if a then text.Large else if b then text.Readable bytes else text.Broken line)) (Some bytes)
unfolding HeldBy
by_text true b line bytes = refl
by_text false true line bytes = by_read (platform bytes) bytes
by_text false false line bytes = refl

held_by : (there : Option (List ℕ)) → HeldBy (content_of there) there
unfolding HeldBy
held_by None = refl
held_by (Some bytes) = by_text (nat_lt 16777216 (length bytes)) (is_utf8 bytes) (bad_line bytes) bytes

module _ (held : Held) where
  -- What holds of a loading after so many names: the whole loading has at most 64 names, and ends as it says; and its
  -- entries are those of its files, whatever whole list of this sort its names stand in.
  record IsLawful (Named : List (List ℕ) → Type 0) (count : ℕ) (loading : Loading) : Type 0 where
    few : count + length loading.names ≤ 64
    ends : EndsBy held loading.names loading.outcome
    from : (all : List (List ℕ)) → Named all → Within all count loading.names → AllFrom held all loading.outcome

  abbrev AreLawful : Gives → Type 0
  AreLawful gives = (count : ℕ) (at : Use) → count ≤ 64 → IsLawful (λ all. Unit {0}) count (gives count at)

  ends_joined : (names more : List (List ℕ)) (entries : List Entry) (outcome : Outcome) →
      AllHeld held names → EndsBy held more outcome → EndsBy held (names ++ more) (joined entries outcome)
  ends_joined names more entries (Joined later) there ends = All-append (IsHeld held) names more there ends
  ends_joined names more entries (Refused fault) there ends = All-append (IsHeld held) names more there ends
  ends_joined names more entries Oversized there ends = All-append (IsHeld held) names more there ends
  ends_joined names more entries Absent there ends = record {
    earlier = names ++ ends.earlier;
    name = ends.name;
    all = ap (λ rest. names ++ rest) ends.all ∙ sym (append_assoc names ends.earlier (ends.name ∷ []));
    there = All-append (IsHeld held) names ends.earlier there ends.there;
    absent = ends.absent;
  }

  from_joined : (all : List (List ℕ)) (entries : List Entry) (outcome : Outcome) →
      All (IsFrom held all) entries → AllFrom held all outcome → AllFrom held all (joined entries outcome)
  from_joined all entries (Joined later) is from = All-append (IsFrom held all) entries later is from
  from_joined all entries (Refused fault) is from = tt
  from_joined all entries Oversized is from = tt
  from_joined all entries Absent is from = tt

  module _ (Named : List (List ℕ) → Type 0) where
    -- a part, and then the rest
    lawful_on : (count : ℕ) (names : List (List ℕ)) (outcome : Outcome) (rest : Loading) →
        IsLawful Named count (stopped names outcome) → IsLawful Named (count + length names) rest →
        IsLawful Named count (go_on names outcome rest)
    lawful_on count names (Joined entries) rest first later = record {
      few = let most = later.few in rw (length-append names rest.names) (omega (arith, most));
      ends = ends_joined names rest.names entries rest.outcome first.ends later.ends;
      from = λ all named is.
          from_joined all entries rest.outcome (first.from all named (within_front all count names rest.names is))
          (later.from all named (within_rest all count names rest.names is));
    }
    lawful_on count names (Refused fault) rest first later = first
    lawful_on count names Oversized rest first later = first
    lawful_on count names Absent rest first later = first

    lawful_none : (count : ℕ) → count ≤ 64 → IsLawful Named count (stopped [] (Joined []))
    lawful_none count few = record {
      few = omega arith;
      ends = All-nil (IsHeld held);
      from = λ all named is. All-nil (IsFrom held all);
    }

  module _ (gives : Gives) (lawful : AreLawful gives) where
    module _ (file : List ℕ) (number : ℕ) where
      Numbered : List (List ℕ) → Type 0
      Numbered all = slice_get all number ≡ Some file

      lawful_one : (earlier : List Entry) (entry : Entry) (later : List Entry) (count : ℕ) (name : Option (List ℕ)) →
          content_of (get held file) ≡ Readable (earlier ++ entry ∷ later) → used_file entry.head ≡ name → count ≤ 64 →
          IsLawful Numbered count (one_by gives file number count entry name)
      unfolding Numbered
      lawful_one earlier entry later count None content kept few = record {
        few = omega arith;
        ends = All-nil (IsHeld held);
        from = λ all named is.
            All-cons (IsFrom held all) (record entry { file = number }) []
            (record {
              name = file;
              earlier = earlier;
              was = entry;
              later = later;
              at = named;
              content = content;
              same = refl;
              kept = kept;
            })
            (All-nil (IsFrom held all));
      }
      lawful_one earlier entry later count (Some name) content kept few =
          let given = lawful count (record { file = file; line = entry.line; name = name }) few in
          record { few = given.few; ends = given.ends; from = λ all named is. given.from all tt is }

      lawful_in_order : (earlier entries : List Entry) (count : ℕ) →
          content_of (get held file) ≡ Readable (earlier ++ entries) → count ≤ 64 →
          IsLawful Numbered count (in_order gives file number count entries)
      lawful_in_order earlier [] count content few = lawful_none Numbered count few
      lawful_in_order earlier (entry ∷ entries) count content few =
          let first = one gives file number count entry in
          let is = lawful_one earlier entry entries count (used_file entry.head) content refl few in
          lawful_on Numbered count first.names first.outcome
          (in_order gives file number (count + length first.names) entries) is
          (lawful_in_order (earlier ++ entry ∷ []) entries (count + length first.names)
          (content ∙ ap Readable (sym (append_assoc earlier (entry ∷ []) entries))) is.few)

    module _ (large : Outcome) (ends : (names : List (List ℕ)) → AllHeld held names → EndsBy held names large)
        (from : (all : List (List ℕ)) → AllFrom held all large) where
      lawful_file : (name : List ℕ) (count : ℕ) (content : Content) →
          content_of (get held name) ≡ content → HeldBy content (get held name) → count < 64 →
          IsLawful (λ all. Unit {0}) count (file_read gives large name count content)
      unfolding HeldBy Numbered
      lawful_file name count Missing is there few = record {
        few = omega arith;
        ends = record { earlier = []; name = name; all = refl; there = All-nil (IsHeld held); absent = there };
        from = λ all named within. tt;
      }
      lawful_file name count Large is there few = record {
        few = omega arith;
        ends = ends (name ∷ []) (All-cons (IsHeld held) name [] there (All-nil (IsHeld held)));
        from = λ all named within. from all;
      }
      lawful_file name count (Faulty line cause) is there few = record {
        few = omega arith;
        ends = All-cons (IsHeld held) name [] there (All-nil (IsHeld held));
        from = λ all named within. tt;
      }
      lawful_file name count (Readable entries) is there few =
          let rest = in_order gives name count (count + 1) entries in
          let one_more : count + 1 ≤ 64 = omega arith in
          let both = lawful_on (Numbered name count) count (name ∷ []) (Joined []) rest
          (record {
            few = omega arith;
            ends = All-cons (IsHeld held) name [] there (All-nil (IsHeld held));
            from = λ all named within. All-nil (IsFrom held all);
          })
          (lawful_in_order name count [] entries (count + 1) is one_more) in
          record {
            few = both.few;
            ends = both.ends;
            from = λ all named within. both.from all (first_at all count name rest.names within) within;
          }

  lawful_refused : (count : ℕ) (at : Use) → count ≤ 64 →
      IsLawful (λ all. Unit {0}) count (stopped [] (refused_at at Depth))
  lawful_refused count at few = record { few = omega arith; ends = All-nil (IsHeld held); from = λ all named is. tt }

  lawful_if : (room count : ℕ) (at : Use) (b : Bool) → nat_le 64 count ≡ b → AreLawful (used room held) → count ≤ 64 →
      IsLawful (λ all. Unit {0}) count
      (if b then stopped [] (refused_at at Depth)
      else file_read (used room held) (refused_at at Size) at.name count (content_of (get held at.name)))
  lawful_if room count at true many lawful few = lawful_refused count at few
  lawful_if room count at false many lawful few =
      let less : count < 64 = grind (arith, nat_tests) in
      lawful_file (used room held) lawful (refused_at at Size) (λ names there. there) (λ all. tt)
      at.name count _ refl (held_by (get held at.name)) less

  lawful_used : (room : ℕ) → AreLawful (used room held)
  unfolding used
  lawful_used zero count at few = lawful_refused count at few
  lawful_used (suc room) count at few = lawful_if room count at (nat_le 64 count) refl (lawful_used room) few

  -- of the loading that a command asks for
  lawful_load : (bodies : ℕ) (name : List ℕ) → IsLawful (λ all. Unit {0}) 0 (load held bodies name)
  lawful_load bodies name =
      lawful_file (used (8 - bodies) held) (lawful_used (8 - bodies)) Oversized (λ names there. there) (λ all. tt)
      name 0 _ refl (held_by (get held name)) (omega arith)

  pub load_few : (bodies : ℕ) (name : List ℕ) → length (load held bodies name).names ≤ 64
  load_few bodies name = let most = (lawful_load bodies name).few in omega (arith, most)

  pub load_ends : (bodies : ℕ) (name : List ℕ) →
      EndsBy held (load held bodies name).names (load held bodies name).outcome
  load_ends bodies name = (lawful_load bodies name).ends

  pub load_from : (bodies : ℕ) (name : List ℕ) →
      AllFrom held (load held bodies name).names (load held bodies name).outcome
  load_from bodies name =
      let names = (load held bodies name).names in
      (lawful_load bodies name).from names tt
      (record { before = []; behind = []; whole = sym (append-nil names); counted = refl })
