-- How a run goes on: the course of what is left, after what was read, written and kept before, is the course of the
-- whole.
use Rattle.std.proofs.Common.{◌≡◌, ◌≢◌, ◌∙◌, ℕ, ◌+◌, ◌≤◌, List, [], ◌∷◌, ◌++◌, length, map, take, drop, All, Option}
use Rattle.std.proofs.Common.{None}
use Rattle.std.proofs.Common.{Some, IfSome, Result, Err, append_assoc, length-append, refl, sym, ap, arith}
use Rattle.std.proofs.lemmas.List.{take-append-drop, map-append, length-take}
use Rattle.std.proofs.lemmas.List.Elements.{All-append, All-cons, All-map, All-nil, All-weaker}
use Rattle.lab_io.specs.Asked.{AsksSome, AsksUpTo}
use Rattle.lab_io.specs.Held.{Held}
use Rattle.lab_io.specs.Known.{grown}
use Rattle.lab_io.specs.Store.{StoreUse}
use Rattle.lab_io.proofs.Grown.{grown-append, grown-nil}
use Rattle.lab_io.specs.Sink.{IsPartWritten}
use Rattle.lab_io.specs.declared.sink.WriteFault.{WriteFault}
use Rattle.lab_io.specs.declared.sink.WriteFault.TheVariants as write_fault
use Rattle.lab_top.specs.declared.status.Status.{Status}
use Rattle.lab_top.specs.declared.status.Status.TheVariants as end_by
use Rattle.lab_top.specs.Transcript.{Outcome, Read, Use, Transcript, after, ended, using, last_line}
use Rattle.lab_top.specs.Transcript.{read_now, read_later, use_later}
use Rattle.lab_top.specs.Inner.Course.{IsEnd}
use Rattle.lab_top.specs.Headline.{Course, FailsAt, HasFailed, IsLastAt, Outside, PartsAt}
use Rattle.lab_top.specs.Headline.{calls, final, kept_by, refusal, names_read}

-- the names of reads stay as they are
names_read-now : (names : List (List ℕ)) → names_read (map read_now names) ≡ names
names_read-now [] = refl
names_read-now (name ∷ names) = ap (λ rest. name ∷ rest) (names_read-now names)

names_read-later : (n : ℕ) (reads : List Read) → names_read (map (read_later n) reads) ≡ names_read reads
names_read-later n [] = refl
names_read-later n (read ∷ reads) = ap (λ rest. read.name ∷ rest) (names_read-later n reads)

pub names_read-after :
    (names : List (List ℕ)) (n : ℕ) (reads : List Read) →
    names_read (map read_now names ++ map (read_later n) reads) ≡ names ++ names_read reads
names_read-after names n reads = rw (map-append, names_read-now, names_read-later) refl

-- and so do the calls on the store
pub calls-later : (n : ℕ) (uses : List Use) → calls (map (use_later n) uses) ≡ calls uses
calls-later n [] = refl
calls-later n (made ∷ uses) = ap (λ rest. made.call ∷ rest) (calls-later n uses)

-- the last read is still the last after others, and comes later
last_after :
    (front : List Read) (n k : ℕ) (reads : List Read) → IsLastAt reads k →
    IsLastAt (front ++ map (read_later n) reads) (n + k)
last_after front n k reads is = record {
  earlier = front ++ map (read_later n) is.earlier;
  last = read_later n is.last;
  all = rw (is.all, map-append, append_assoc) refl;
  before = ap (λ m. n + m) is.before;
}

fails_later : {failed : List Use} {k : ℕ} (n : ℕ) → FailsAt failed k → FailsAt (map (use_later n) failed) (n + k)
fails_later n fails = record {
  one = use_later n fails.one;
  alone = ap (map (use_later n)) fails.alone;
  before = ap (λ m. n + m) fails.before;
}

-- the call that has failed, if one has, comes later too
failed_later :
    (status : Status) (failed : List Use) (n k : ℕ) → HasFailed status failed k →
    HasFailed status (map (use_later n) failed) (n + k)
failed_later end_by.Done failed n k none = ap (map (use_later n)) none
failed_later end_by.Memory failed n k none = ap (map (use_later n)) none
failed_later (end_by.Usage cause) failed n k none = ap (map (use_later n)) none
failed_later (end_by.Script fault) failed n k none = ap (map (use_later n)) none
failed_later end_by.Unread failed n k none = ap (map (use_later n)) none
failed_later end_by.Unwritten failed n k none = ap (map (use_later n)) none
failed_later end_by.Unstored failed n k fails = fails_later n fails

-- no call has failed
none_failed : (status : Status) (k : ℕ) → status ≢ end_by.Unstored → HasFailed status [] k
none_failed end_by.Done k not = refl
none_failed end_by.Memory k not = refl
none_failed (end_by.Usage cause) k not = refl
none_failed (end_by.Script fault) k not = refl
none_failed end_by.Unread k not = refl
none_failed end_by.Unwritten k not = refl
none_failed end_by.Unstored k not = absurd (not refl)

-- a store that keeps this was left alone
pub record LeavesStore (kept : Held) (old new : Outside) : Type 0 where
  pub used : new.used ≡ old.used
  pub told : new.kept ≡ Some kept

grows_none : {A : Type 0} {told told' : Option (List A)} → told' ≡ told → told' ≡ grown told []
grows_none {told = told} same = same ∙ sym (grown-nil told)

-- ---- at what place of the transcript a run stands

-- what is to come does not come before its beginning
reads_come : (reads : List Read) → All (λ read. 0 ≤ read.before) reads
reads_come [] = All-nil _
reads_come (read ∷ reads) = All-cons (λ read. 0 ≤ read.before) read reads (omega arith) (reads_come reads)

calls_come : (uses : List Use) → All (λ call. 0 ≤ call.before) uses
calls_come [] = All-nil _
calls_come (made ∷ uses) = All-cons (λ call. 0 ≤ call.before) made uses (omega arith) (calls_come uses)

-- what is read first comes before all
reads_begin : (n : ℕ) (names : List (List ℕ)) → All (λ read. read.before ≤ n) (map read_now names)
reads_begin n [] = All-nil _
reads_begin n (name ∷ names) =
    All-cons (λ read. read.before ≤ n) (read_now name) (map read_now names) (omega arith) (reads_begin n names)

-- what is made later comes later
reads_within :
    (n k : ℕ) (reads : List Read) → All (λ read. read.before ≤ k) reads →
    All (λ read. read.before ≤ n + k) (map (read_later n) reads)
reads_within n k reads all =
    All-map (λ read. read.before ≤ n + k) (read_later n) reads
    (All-weaker (λ read. read.before ≤ k) (λ read. n + read.before ≤ n + k) (λ read within. omega arith) reads all)

reads_beyond :
    (n k : ℕ) (reads : List Read) → All (λ read. k ≤ read.before) reads →
    All (λ read. n + k ≤ read.before) (map (read_later n) reads)
reads_beyond n k reads all =
    All-map (λ read. n + k ≤ read.before) (read_later n) reads
    (All-weaker (λ read. k ≤ read.before) (λ read. n + k ≤ n + read.before) (λ read beyond. omega arith) reads all)

calls_within :
    (n k : ℕ) (uses : List Use) → All (λ call. call.before ≤ k) uses →
    All (λ call. call.before ≤ n + k) (map (use_later n) uses)
calls_within n k uses all =
    All-map (λ call. call.before ≤ n + k) (use_later n) uses
    (All-weaker (λ call. call.before ≤ k) (λ call. n + call.before ≤ n + k) (λ call within. omega arith) uses all)

calls_beyond :
    (n k : ℕ) (uses : List Use) → All (λ call. k ≤ call.before) uses →
    All (λ call. n + k ≤ call.before) (map (use_later n) uses)
calls_beyond n k uses all =
    All-map (λ call. n + k ≤ call.before) (use_later n) uses
    (All-weaker (λ call. k ≤ call.before) (λ call. n + k ≤ n + call.before) (λ call beyond. omega arith) uses all)

-- a place of the rest is a later place of the whole
place_after :
    {k : ℕ} {passed coming : List Read} {made ahead : List Use} (names : List (List ℕ)) (n : ℕ) →
    PartsAt k passed coming made ahead →
    PartsAt (n + k) (map read_now names ++ map (read_later n) passed) (map (read_later n) coming)
    (map (use_later n) made) (map (use_later n) ahead)
place_after {k} {passed} {coming} {made} {ahead} names n at = record {
  read = All-append (λ read. read.before ≤ n + k) _ _ (reads_begin (n + k) names) (reads_within n k passed at.read);
  unread = reads_beyond n k coming at.unread;
  called = calls_within n k made at.called;
  uncalled = calls_beyond n k ahead at.uncalled;
}

-- a call at the beginning was made
place_using :
    {k : ℕ} {passed coming : List Read} {made ahead : List Use} (call : StoreUse) →
    PartsAt k passed coming made ahead →
    PartsAt k passed coming (record { call = call; before = 0 } ∷ made) ahead
place_using {k = k} {made = made} call at = record {
  read = at.read;
  unread = at.unread;
  called = All-cons (λ call. call.before ≤ k) (record { call = call; before = 0 }) made (omega arith) at.called;
  uncalled = at.uncalled;
}

-- at the beginning only names were read
place_begins :
    (names : List (List ℕ)) (coming : List Read) (ahead : List Use) → PartsAt 0 (map read_now names) coming [] ahead
place_begins names coming ahead = record {
  read = reads_begin 0 names;
  unread = reads_come coming;
  called = All-nil _;
  uncalled = calls_come ahead;
}

-- nothing is to come
place_ends : (k : ℕ) (names : List (List ℕ)) → PartsAt k (map read_now names) [] [] []
place_ends k names = record {
  read = reads_begin k names;
  unread = All-nil _;
  called = All-nil _;
  uncalled = All-nil _;
}

-- a part of a text was written
place_cut :
    (names : List (List ℕ)) (text : List ℕ) (count : ℕ) (coming : List Read) (ahead : List Use) →
    PartsAt (length (take count text)) (map read_now names) (map (read_later (length text)) coming) []
    (map (use_later (length text)) ahead)
place_cut names text count coming ahead =
    let n = length text in
    let k = length (take count text) in
    let short : k ≤ n = omega (arith, length-take count text) in
    record {
      read = reads_begin k names;
      unread = All-weaker (λ read. n + 0 ≤ read.before) (λ read. k ≤ read.before) (λ read beyond. omega (arith, short))
          (map (read_later n) coming) (reads_beyond n 0 coming (reads_come coming));
      called = All-nil _;
      uncalled = All-weaker (λ call. n + 0 ≤ call.before) (λ call. k ≤ call.before)
          (λ call beyond. omega (arith, short)) (map (use_later n) ahead) (calls_beyond n 0 ahead (calls_come ahead));
    }

-- where nothing was left of the rest nothing is left of the whole
finished_after :
    (n : ℕ) (coming : List Read) (ahead : List Use) (told : Option Outcome) →
    IfSome told (λ is. (coming ≡ []) × (ahead ≡ [])) →
    IfSome told (λ is. (map (read_later n) coming ≡ []) × (map (use_later n) ahead ≡ []))
finished_after n coming ahead None none = tt
finished_after n coming ahead (Some is) none = (ap (map (read_later n)) none.0, ap (map (use_later n)) none.1)

-- nothing is left of no reads and no calls
none_left : (reads : List Read) (uses : List Use) (told : Option Outcome) → reads ≡ [] → uses ≡ [] →
    IfSome told (λ is. (reads ≡ []) × (uses ≡ []))
none_left reads uses None read made = tt
none_left reads uses (Some is) read made = (read, made)

-- ---- how a run goes on

-- these names were read and this text was written, and then the rest went by its course
pub course_after :
    {kept : Held} {status : Status} {old mid new : Outside}
    (names : List (List ℕ)) (text : List ℕ) (rest : Transcript) →
    mid.written ≡ grown old.written text → mid.asked ≡ grown old.asked names → mid.used ≡ old.used →
    Course rest kept status mid new → Course (after names text rest) kept status old new
course_after {status = status} {old = old} names text rest wrote asked used course = record {
  bytes = text ++ course.bytes;
  unwritten = course.unwritten;
  passed = map read_now names ++ map (read_later (length text)) course.passed;
  coming = map (read_later (length text)) course.coming;
  done = map (use_later (length text)) course.done;
  failed = map (use_later (length text)) course.failed;
  ahead = map (use_later (length text)) course.ahead;
  all_bytes = rw (course.all_bytes, append_assoc) refl;
  all_reads = rw (course.all_reads, map-append, append_assoc) refl;
  all_uses = rw (course.all_uses, map-append, map-append) refl;
  written = rw (course.written, wrote, grown-append old.written text course.bytes) refl;
  asked = rw (course.asked, asked, grown-append old.asked names (names_read course.passed), names_read-after) refl;
  used = rw (course.used, used, ← map-append, calls-later) refl;
  stored = rw (course.stored, calls-later) refl;
  place = rw (length-append, ← map-append (use_later (length text)) course.done course.failed)
      (place_after names (length text) course.place);
  ended = rw calls-later course.ended;
  finished = finished_after (length text) course.coming course.ahead (final status) course.finished;
  unread = λ is. rw length-append (last_after _ _ _ _ (course.unread is));
  unstored = rw length-append (failed_later status course.failed _ _ course.unstored);
}

-- this call on the store was done, and then the rest went by its course
pub course_using :
    {kept : Held} {status : Status} {old mid new : Outside} (call : StoreUse) (rest : Transcript) →
    mid.written ≡ old.written → mid.asked ≡ old.asked → mid.used ≡ grown old.used (call ∷ []) →
    Course rest (kept_by kept (call ∷ [])) status mid new → Course (using call rest) kept status old new
course_using {old = old} call rest wrote asked used course = record {
  bytes = course.bytes;
  unwritten = course.unwritten;
  passed = course.passed;
  coming = course.coming;
  done = record { call = call; before = 0 } ∷ course.done;
  failed = course.failed;
  ahead = course.ahead;
  all_bytes = course.all_bytes;
  all_reads = course.all_reads;
  all_uses = ap (λ uses. record { call = call; before = 0 } ∷ uses) course.all_uses;
  written = rw (course.written, wrote) refl;
  asked = rw (course.asked, asked) refl;
  used = rw (course.used, used, grown-append old.used (call ∷ []) (calls (course.done ++ course.failed))) refl;
  stored = course.stored;
  place = place_using call course.place;
  ended = course.ended;
  finished = course.finished;
  unread = course.unread;
  unstored = course.unstored;
}

-- this call on the store failed
pub course_unstored :
    {kept : Held} {old new : Outside} (call : StoreUse) (rest : Transcript) →
    new.written ≡ old.written → new.asked ≡ old.asked → new.used ≡ grown old.used (call ∷ []) →
    new.kept ≡ Some kept → Course (using call rest) kept end_by.Unstored old new
course_unstored call rest wrote asked used told = record {
  bytes = [];
  unwritten = rest.bytes;
  passed = [];
  coming = rest.reads;
  done = [];
  failed = record { call = call; before = 0 } ∷ [];
  ahead = rest.uses;
  all_bytes = refl;
  all_reads = refl;
  all_uses = refl;
  written = grows_none wrote;
  asked = grows_none asked;
  used = used;
  stored = told;
  place = place_using call (place_begins [] rest.reads rest.uses);
  ended = tt;
  finished = tt;
  unread = λ is. cc;
  unstored = record { one = record { call = call; before = 0 }; alone = refl; before = refl };
}

-- a read of these failed
pub course_unread :
    {kept : Held} {old new : Outside} (names : List (List ℕ)) (text : List ℕ) (rest : Transcript) →
    new.written ≡ old.written → LeavesStore kept old new → AsksUpTo names old.asked new.asked →
    Course (after names text rest) kept end_by.Unread old new
course_unread names text rest wrote store asks = record {
  bytes = [];
  unwritten = text ++ rest.bytes;
  passed = map read_now (asks.earlier ++ asks.name ∷ []);
  coming = map read_now asks.coming ++ map (read_later (length text)) rest.reads;
  done = [];
  failed = [];
  ahead = map (use_later (length text)) rest.uses;
  all_bytes = refl;
  all_reads = rw asks.all (simp (map-append, append_assoc));
  all_uses = refl;
  written = grows_none wrote;
  asked = rw (asks.asked, names_read-now) refl;
  used = grows_none store.used;
  stored = store.told;
  place = place_begins (asks.earlier ++ asks.name ∷ []) _ _;
  ended = tt;
  finished = tt;
  unread = λ _. record {
    earlier = map read_now asks.earlier;
    last = read_now asks.name;
    all = map-append _ _ _;
    before = refl;
  };
  unstored = refl;
}

-- a read of these found no memory, or what comes after them did
pub course_memory :
    {kept : Held} {old new : Outside} (names : List (List ℕ)) (text : List ℕ) (rest : Transcript) →
    new.written ≡ old.written → LeavesStore kept old new → AsksSome names old.asked new.asked →
    Course (after names text rest) kept end_by.Memory old new
course_memory names text rest wrote store asks = record {
  bytes = [];
  unwritten = text ++ rest.bytes;
  passed = map read_now asks.passed;
  coming = map read_now asks.coming ++ map (read_later (length text)) rest.reads;
  done = [];
  failed = [];
  ahead = map (use_later (length text)) rest.uses;
  all_bytes = refl;
  all_reads = rw (asks.all, map-append, append_assoc) refl;
  all_uses = refl;
  written = grows_none wrote;
  asked = rw (asks.asked, names_read-now) refl;
  used = grows_none store.used;
  stored = store.told;
  place = place_begins asks.passed _ _;
  ended = tt;
  finished = tt;
  unread = λ is. cc;
  unstored = refl;
}

-- memory ran out before anything was read, written or kept
pub course_none :
    {kept : Held} {old new : Outside} (all : Transcript) →
    new.written ≡ old.written → new.asked ≡ old.asked → LeavesStore kept old new →
    Course all kept end_by.Memory old new
course_none all wrote asked store = record {
  bytes = [];
  unwritten = all.bytes;
  passed = [];
  coming = all.reads;
  done = [];
  failed = [];
  ahead = all.uses;
  all_bytes = refl;
  all_reads = refl;
  all_uses = refl;
  written = grows_none wrote;
  asked = grows_none asked;
  used = grows_none store.used;
  stored = store.told;
  place = place_begins [] _ _;
  ended = tt;
  finished = tt;
  unread = λ is. cc;
  unstored = refl;
}

with_kept :
    (kept : Held) (outcome : Outcome) (unwritten : List ℕ) (told : Option Outcome) →
    IfSome told (λ is. (outcome ≡ is) × (unwritten ≡ [])) →
    IfSome told (λ is. (outcome ≡ is) × (unwritten ≡ []) × (kept ≡ kept))
with_kept kept outcome unwritten None both = tt
with_kept kept outcome unwritten (Some is) both = (both.0, both.1, refl)

-- these names were read, and then the last text and the last line were written, or a part of them
pub course_stopped :
    {kept : Held} {status : Status} {old new : Outside}
    (names : List (List ℕ)) (text : List ℕ) (outcome : Outcome) →
    new.asked ≡ grown old.asked names → LeavesStore kept old new →
    IsEnd text outcome status old.written new.written →
    Course (after names text (ended kept outcome)) kept status old new
course_stopped {status = status} names text outcome asked store end = record {
  bytes = end.bytes;
  unwritten = end.unwritten;
  passed = map read_now names;
  coming = [];
  done = [];
  failed = [];
  ahead = [];
  all_bytes = end.all;
  all_reads = refl;
  all_uses = refl;
  written = end.grows;
  asked = rw (asked, names_read-now) refl;
  used = grows_none store.used;
  stored = store.told;
  place = place_ends _ names;
  ended = with_kept _ _ _ (final status) end.ended;
  finished = none_left [] [] (final status) refl refl;
  unread = λ is. absurd (end.never is);
  unstored = none_failed status _ end.nor;
}

-- the last line was written, or a part of it
pub course_ended :
    {kept : Held} {status : Status} {old new : Outside} (outcome : Outcome) →
    new.asked ≡ old.asked → LeavesStore kept old new → IsEnd [] outcome status old.written new.written →
    Course (ended kept outcome) kept status old new
course_ended {status = status} outcome asked store end = record {
  bytes = end.bytes;
  unwritten = end.unwritten;
  passed = [];
  coming = [];
  done = [];
  failed = [];
  ahead = [];
  all_bytes = end.all;
  all_reads = refl;
  all_uses = refl;
  written = end.grows;
  asked = grows_none asked;
  used = grows_none store.used;
  stored = store.told;
  place = place_ends _ [];
  ended = with_kept _ _ _ (final status) end.ended;
  finished = none_left [] [] (final status) refl refl;
  unread = λ is. absurd (end.never is);
  unstored = none_failed status _ end.nor;
}

cut_by : (fault : WriteFault) → final (refusal fault) ≡ None
cut_by write_fault.Unwritten = refl
cut_by write_fault.Memory = refl

pub not_unread : (fault : WriteFault) → refusal fault ≢ end_by.Unread
not_unread write_fault.Unwritten is = cc
not_unread write_fault.Memory is = cc

pub not_unstored : (fault : WriteFault) → refusal fault ≢ end_by.Unstored
not_unstored write_fault.Unwritten is = cc
not_unstored write_fault.Memory is = cc

-- of two that a result is
pub same_err : {A E : Type 0} (result : Result A E) (a b : E) → result ≡ Err a → result ≡ Err b → a ≡ b
same_err result a b one other = cc

pub unwritten_by : (fault : WriteFault) → refusal fault ≡ end_by.Unwritten → fault ≡ write_fault.Unwritten
unwritten_by write_fault.Unwritten is = refl
unwritten_by write_fault.Memory is = cc

-- a part of the last text and the last line was written
pub end_cut :
    (text : List ℕ) (outcome : Outcome) (fault : WriteFault) (out out' : Option (List ℕ)) →
    IsPartWritten out (text ++ last_line outcome) out' → IsEnd text outcome (refusal fault) out out'
end_cut text outcome fault out out' part = record {
  bytes = take part.count (text ++ last_line outcome);
  unwritten = drop part.count (text ++ last_line outcome);
  all = sym (take-append-drop part.count (text ++ last_line outcome));
  grows = part.written;
  ended = rw (cut_by fault) tt;
  never = not_unread fault;
  nor = not_unstored fault;
}

-- the last text was written whole, and the last line after it, or a part of that
pub end_after :
    (text : List ℕ) (outcome : Outcome) (status : Status) (out mid out' : Option (List ℕ)) →
    mid ≡ grown out text → IsEnd [] outcome status mid out' → IsEnd text outcome status out out'
end_after text outcome status out mid out' wrote end = record {
  bytes = text ++ end.bytes;
  unwritten = end.unwritten;
  all = rw (append_assoc, ← end.all) refl;
  grows = rw (end.grows, wrote, grown-append out text end.bytes) refl;
  ended = end.ended;
  never = end.never;
  nor = end.nor;
}

-- these names were read and a part of a text was written, and no more
pub course_cut :
    {kept : Held} {old new : Outside}
    (names : List (List ℕ)) (text : List ℕ) (rest : Transcript) (fault : WriteFault) →
    IsPartWritten old.written text new.written → new.asked ≡ grown old.asked names → LeavesStore kept old new →
    Course (after names text rest) kept (refusal fault) old new
course_cut names text rest fault part asked store = record {
  bytes = take part.count text;
  unwritten = drop part.count text ++ rest.bytes;
  passed = map read_now names;
  coming = map (read_later (length text)) rest.reads;
  done = [];
  failed = [];
  ahead = map (use_later (length text)) rest.uses;
  all_bytes = rw (← append_assoc, take-append-drop part.count text) refl;
  all_reads = refl;
  all_uses = refl;
  written = part.written;
  asked = rw (asked, names_read-now) refl;
  used = grows_none store.used;
  stored = store.told;
  place = place_cut names text part.count rest.reads rest.uses;
  ended = rw (cut_by fault) tt;
  finished = rw (cut_by fault) tt;
  unread = λ is. absurd (not_unread fault is);
  unstored = none_failed (refusal fault) _ (not_unstored fault);
}
