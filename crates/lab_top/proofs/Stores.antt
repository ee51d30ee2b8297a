-- What became of a command for the store, in the transcript and in the course.
use Rattle.std.proofs.Common.{◌≡◌, ◌<◌, ◌≤◌, ◌∙◌, ℕ, true, false, List, [], ◌∷◌, length}
use Rattle.std.proofs.Common.{◌==◌, not, cond, true≢false, Option, None, Some, Result, Ok, Err}
use Rattle.std.proofs.Common.{refl, sym, ap, arith}
use Rattle.std.specs.FinMap.{get, insert, get-insert}
use Rattle.std.specs.Cmp.{eq_by_cmp_equiv}
use Rattle.std.specs.Cmp.Lexicographic.{nat_list_cmp_total}
use Rattle.std.specs.List.{All}
use Rattle.std.specs.Prelude.{IsSomeAnd}
use Rattle.std.proofs.lemmas.Bool.Decides.{nat_tests}
use Rattle.std.proofs.lemmas.List.Elements.{All-head}
use Rattle.std.proofs.lemmas.Bool.{or_parts, le-ltb, lt-ltb}
use Rattle.lab_io.specs.Held.{Held}
use Rattle.lab_io.specs.Known.{grown}
use Rattle.lab_io.specs.Store.{StoreUse, get_of, put_of}
use Rattle.lab_snap.specs.Saved.{spelling}
use Rattle.lab_snap.specs.Snapshot.{snapshot_of}
use Rattle.lab_state.specs.Lab.{Lab}
use Rattle.lab_state.specs.Valid.{IsOpen, is_shown_before}
use Rattle.log_text.specs.declared.line.OpenLine.{OpenLine}
use Rattle.monitor.specs.State.{State, LinePlace, bodies_of, joined}
use Rattle.monitor.specs.Step.{Running}
use Rattle.resc_vars.specs.declared.cause.ScriptCause.TheVariants.{Size, Snapshot, Occupied}
use Rattle.lab_top.specs.declared.snapshots.StoreHalt.{StoreHalt}
use Rattle.lab_top.specs.declared.snapshots.StoreHalt.TheVariants as halt
use Rattle.lab_top.specs.declared.status.Status.TheVariants as end_by
use Rattle.lab_top.specs.Headline.{Course, Outside, kept_by}
use Rattle.lab_top.specs.Transcript.{Further, Transcript, is_large, is_occupied, loading, loading_kept, refused}
use Rattle.lab_top.specs.Transcript.{resuming}
use Rattle.lab_top.specs.Transcript.{saving, using}
use Rattle.lab_top.specs.Inner.Course.{GoesOn}
use Rattle.lab_top.specs.Inner.Stored.{IsRestored, IsStored}
use Rattle.lab_top.proofs.Courses.{course_none, course_unstored, course_using}

-- ---- the tests

small : (bytes : List ℕ) → length bytes ≤ 67108864 → is_large bytes ≡ false
small bytes within = le-ltb 67108864 (length bytes) within

large : (bytes : List ℕ) → 67108864 < length bytes → is_large bytes ≡ true
large bytes beyond = lt-ltb 67108864 (length bytes) beyond

-- a name keeps what was put under it
kept_now : (kept : Held) (name bytes : List ℕ) → get (insert kept name bytes) name ≡ Some bytes
kept_now kept name bytes =
    get-insert nat_list_cmp_total kept name bytes name
    ∙ ap (λ same. cond same (Some bytes) (get kept name)) ((eq_by_cmp_equiv nat_list_cmp_total).refl name)

none_there : {A : Type 0} (xs : List A) → not (length xs == 0) ≡ false → xs ≡ []
none_there [] is = refl
none_there (x ∷ xs) is = grind (arith, nat_tests)

-- a laboratory in which nothing was made and no time has passed
pub record IsNew (lab : Lab) : Type 0 where
  pub boards : lab.boards ≡ []
  pub hubs : lab.hubs ≡ []
  pub now : lab.now ≡ 0

pub is_new : (lab : Lab) → is_occupied lab ≡ false → IsNew lab
is_new lab free =
    let made = or_parts _ _ free in
    let first = or_parts _ _ made.0 in
    record {
      boards = none_there lab.boards first.0;
      hubs = none_there lab.hubs first.1;
      now = grind (arith, nat_tests, made.1);
    }

-- no line is open where there is no board
pub no_line : (lab : Lab) (lines : List OpenLine) → lab.boards ≡ [] → All (IsOpen lab) lines → lines ≡ []
no_line lab [] none all = refl
no_line lab (line ∷ lines) none all =
    let shut : is_shown_before lab lab.now line.member line.at ≡ false = rw none refl in
    absurd (true≢false (sym (All-head (IsOpen lab) line lines all) ∙ shut))

-- ---- what is left of a run, by the tests

saving_large :
    (further : Further) (kept : Held) (name : List ℕ) (place : LinePlace) (s : State) (bytes : List ℕ) →
    is_large bytes ≡ true → saving further kept name place s bytes ≡ refused kept place s Size
saving_large further kept name place s bytes is = rw is refl

saving_dry :
    (further : Further) (kept : Held) (name : List ℕ) (place : LinePlace) (s : State) (bytes : List ℕ) →
    is_large bytes ≡ false → s.dry ≡ true → saving further kept name place s bytes ≡ further kept s
saving_dry further kept name place s bytes is dry = rw (is, dry) refl

saving_wet :
    (further : Further) (kept : Held) (name : List ℕ) (place : LinePlace) (s : State) (bytes : List ℕ) →
    is_large bytes ≡ false → s.dry ≡ false →
    saving further kept name place s bytes ≡ using (put_of name bytes) (further (insert kept name bytes) s)
saving_wet further kept name place s bytes is dry = rw (is, dry) refl

pub saves_on :
    (rest : Further) (kept : Held) (name : List ℕ) (place : LinePlace) (s : State) (bytes : List ℕ) →
    length bytes ≤ 67108864 → s.dry ≡ false →
    saving rest kept name place s bytes ≡ using (put_of name bytes) (rest (insert kept name bytes) s)
saves_on rest kept name place s bytes within dry =
    saving_wet rest kept name place s bytes (small bytes within) dry

pub loads_on :
    (rest : Further) (kept : Held) (name : List ℕ) (place : LinePlace) (s t : State) →
    length (spelling s.lab s.lines) ≤ 67108864 → is_occupied t.lab ≡ false →
    snapshot_of (spelling s.lab s.lines) ≡ Some (s.lab, s.lines) →
    loading rest (insert kept name (spelling s.lab s.lines)) name place t
    ≡ using (get_of name) (rest (insert kept name (spelling s.lab s.lines)) (joined (bodies_of t) s.lab s.lines))
loads_on rest kept name place s t within free holds =
    let bytes = spelling s.lab s.lines in
    rw (free, kept_now kept name bytes, small bytes within, holds) refl

-- ---- how a command ends

-- this call on the store was done, and the run goes on
goes_using :
    {kept : Held} {old mid : Outside} (call : StoreUse) (further : Held → Transcript) →
    mid.written ≡ old.written → mid.asked ≡ old.asked → mid.used ≡ grown old.used (call ∷ []) →
    mid.kept ≡ Some (kept_by kept (call ∷ [])) →
    GoesOn (using call (further (kept_by kept (call ∷ [])))) kept old mid further
goes_using {kept} call further wrote asked used told = record {
  now = kept_by kept (call ∷ []);
  told = told;
  course = λ status new course. course_using call (further (kept_by kept (call ∷ []))) wrote asked used course;
}

-- no call was made, and the run goes on
goes_still :
    {kept : Held} {at : Outside} (further : Held → Transcript) → at.kept ≡ Some kept →
    GoesOn (further kept) kept at at further
goes_still {kept} further told = record { now = kept; told = told; course = λ status new course. course }

-- want of memory is no fault of the store
pub memory_alone :
    {A M : Type 0} (result : Result A (StoreHalt M)) → result ≡ Err halt.Memory → result ≡ Err halt.Unstored → ⊥
memory_alone result is failed = cc

-- ---- a laboratory is kept

-- it is too large
pub keep_large :
    {at : Outside} (further : Further) (kept : Held) (name : List ℕ) (place : LinePlace) (m : Running)
    (bytes : List ℕ) →
    67108864 < length bytes → at.kept ≡ Some kept →
    IsStored (saving further kept name place m.state bytes) kept further place at at (Err (halt.Refused Size m))
keep_large further kept name place m bytes beyond told =
    rw (saving_large further kept name place m.state bytes (large bytes beyond))
    (goes_still (λ now. refused now place m.state Size) told)

-- each run has length 0
pub keep_dry :
    {at : Outside} (further : Further) (kept : Held) (name : List ℕ) (place : LinePlace) (m : Running)
    (bytes : List ℕ) →
    length bytes ≤ 67108864 → m.state.dry ≡ true → at.kept ≡ Some kept →
    IsStored (saving further kept name place m.state bytes) kept further place at at (Ok m)
keep_dry further kept name place m bytes within dry told =
    rw (saving_dry further kept name place m.state bytes (small bytes within) dry)
    (goes_still (λ now. further now m.state) told)

-- it was kept
pub keep_done :
    {old mid : Outside} (further : Further) (kept : Held) (name : List ℕ) (place : LinePlace) (m : Running)
    (bytes : List ℕ) →
    length bytes ≤ 67108864 → m.state.dry ≡ false →
    mid.written ≡ old.written → mid.asked ≡ old.asked → mid.used ≡ grown old.used (put_of name bytes ∷ []) →
    mid.kept ≡ Some (insert kept name bytes) →
    IsStored (saving further kept name place m.state bytes) kept further place old mid (Ok m)
keep_done further kept name place m bytes within dry wrote asked used told =
    rw (saving_wet further kept name place m.state bytes (small bytes within) dry)
    (goes_using (put_of name bytes) (λ now. further now m.state) wrote asked used told)

-- the store failed
pub keep_failed :
    {old new : Outside} (further : Further) (kept : Held) (name : List ℕ) (place : LinePlace) (s : State)
    (bytes : List ℕ) →
    length bytes ≤ 67108864 → s.dry ≡ false →
    new.written ≡ old.written → new.asked ≡ old.asked → new.used ≡ grown old.used (put_of name bytes ∷ []) →
    new.kept ≡ Some kept →
    Course (saving further kept name place s bytes) kept end_by.Unstored old new
keep_failed further kept name place s bytes within dry wrote asked used told =
    rw (saving_wet further kept name place s bytes (small bytes within) dry)
    (course_unstored (put_of name bytes) (further (insert kept name bytes) s) wrote asked used told)

-- ---- a laboratory is taken back

loading_occupied :
    (further : Further) (kept : Held) (name : List ℕ) (place : LinePlace) (s : State) → is_occupied s.lab ≡ true →
    loading further kept name place s ≡ refused kept place s Occupied
loading_occupied further kept name place s is = rw is refl

loading_free :
    (further : Further) (kept : Held) (name : List ℕ) (place : LinePlace) (s : State) → is_occupied s.lab ≡ false →
    loading further kept name place s
    ≡ using (get_of name) (loading_kept further kept place s (get kept name))
loading_free further kept name place s is = rw is refl

-- something is there
pub take_occupied :
    {at : Outside} (further : Further) (kept : Held) (name : List ℕ) (place : LinePlace) (m : Running) →
    is_occupied m.state.lab ≡ true → at.kept ≡ Some kept →
    IsStored (loading further kept name place m.state) kept further place at at (Err (halt.Refused Occupied m))
take_occupied further kept name place m is told =
    rw (loading_occupied further kept name place m.state is)
    (goes_still (λ now. refused now place m.state Occupied) told)

some_large :
    (o : Option (List ℕ)) → IsSomeAnd o (λ bytes. 67108864 < length bytes) →
    (bytes : List ℕ) × (o ≡ Some bytes) × (67108864 < length bytes)
some_large None beyond = absurd beyond
some_large (Some bytes) beyond = (bytes, refl, beyond)

-- the name keeps too much
pub take_large :
    {old mid : Outside} (further : Further) (kept : Held) (name : List ℕ) (place : LinePlace) (m : Running) →
    is_occupied m.state.lab ≡ false → IsSomeAnd (get kept name) (λ bytes. 67108864 < length bytes) →
    mid.written ≡ old.written → mid.asked ≡ old.asked → mid.used ≡ grown old.used (get_of name ∷ []) →
    mid.kept ≡ Some kept →
    IsStored (loading further kept name place m.state) kept further place old mid (Err (halt.Refused Size m))
take_large further kept name place m free beyond wrote asked used told =
    let there = some_large (get kept name) beyond in
    rw (loading_free further kept name place m.state free, there.1, large there.0 there.2)
    (goes_using (get_of name) (λ now. refused now place m.state Size) wrote asked used told)

-- the store failed
pub take_failed :
    {old new : Outside} (further : Further) (kept : Held) (name : List ℕ) (place : LinePlace) (s : State) →
    is_occupied s.lab ≡ false →
    new.written ≡ old.written → new.asked ≡ old.asked → new.used ≡ grown old.used (get_of name ∷ []) →
    new.kept ≡ Some kept →
    Course (loading further kept name place s) kept end_by.Unstored old new
take_failed further kept name place s free wrote asked used told =
    rw (loading_free further kept name place s free)
    (course_unstored (get_of name) (loading_kept further kept place s (get kept name)) wrote asked used told)

restored :
    (old mid : Outside) (further : Further) (kept : Held) (name : List ℕ) (place : LinePlace) (m : Running)
    (snapshot : Option (Lab × List OpenLine)) (result : Result Running (StoreHalt Running)) →
    mid.written ≡ old.written → mid.asked ≡ old.asked → mid.used ≡ grown old.used (get_of name ∷ []) →
    mid.kept ≡ Some kept → IsRestored m snapshot result →
    IsStored (using (get_of name) (resuming further kept place m.state snapshot)) kept further place old mid result
restored old mid further kept name place m snapshot (Ok next) wrote asked used told is =
    rw (is.2, is.3)
    (goes_using (get_of name) (λ now. further now (joined (bodies_of m.state) is.0 is.1)) wrote asked used told)
restored old mid further kept name place m snapshot (Err (halt.Refused cause next)) wrote asked used told is =
    rw (is.0, is.1, is.2)
    (goes_using (get_of name) (λ now. refused now place m.state Snapshot) wrote asked used told)
restored old mid further kept name place m snapshot (Err halt.Unstored) wrote asked used told is = absurd is
restored old mid further kept name place m snapshot (Err halt.Memory) wrote asked used told is =
    course_using {mid = mid} (get_of name) (resuming further kept place m.state snapshot) wrote asked used
    (course_none (resuming further kept place m.state snapshot) refl refl (record { used = refl; told = told }))

-- what the name keeps was read, and what became of that
pub take_read :
    (old mid : Outside) (further : Further) (kept : Held) (name : List ℕ) (place : LinePlace) (m : Running)
    (bytes : List ℕ) (result : Result Running (StoreHalt Running)) →
    is_occupied m.state.lab ≡ false → get kept name ≡ Some bytes → length bytes ≤ 67108864 →
    mid.written ≡ old.written → mid.asked ≡ old.asked → mid.used ≡ grown old.used (get_of name ∷ []) →
    mid.kept ≡ Some kept → IsRestored m (snapshot_of bytes) result →
    IsStored (loading further kept name place m.state) kept further place old mid result
take_read old mid further kept name place m bytes result free there within wrote asked used told is =
    rw (loading_free further kept name place m.state free, there, small bytes within)
    (restored old mid further kept name place m (snapshot_of bytes) result wrote asked used told is)
