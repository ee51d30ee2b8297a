-- What the course of a run tells of it.
use Rattle.std.proofs.Common.{◌≡◌, ◌∙◌, ℕ, List, [], ◌++◌, Option, None, Some, IfSome, inl, inr, refl, ap}
use Rattle.std.proofs.Common.{append_assoc, append-nil}
use Rattle.std.specs.Option.{ForSome}
use Rattle.lab_io.specs.Held.{Held}
use Rattle.lab_io.specs.Known.{grown}
use Rattle.lab_top.specs.declared.status.Status.{Status}
use Rattle.lab_top.specs.declared.status.Status.TheVariants as end_by
use Rattle.lab_top.specs.Transcript.{Outcome, Read, Transcript, transcript}
use Rattle.lab_top.specs.Headline.{AsksPart, Course, EndsAs, IsLastAt, IsUncut, IsWhole, Outside, ReadsLast, WritesPart}
use Rattle.lab_top.specs.Headline.{calls, final, kept_by, names_read}

-- what holds of the values that are told
pub if_both :
    {A B : Type 0} (o : Option A) (p : Option B) (P : A → B → Type 0) →
    ForSome o (λ a. ForSome p (λ b. P a b)) → IfSome o (λ a. IfSome p (λ b. P a b))
if_both None p P all = tt
if_both (Some a) None P all = tt
if_both (Some a) (Some b) P all = all a refl b refl

whole_by :
    {all : Transcript} {kept : Held} {status : Status} {old new : Outside} (course : Course all kept status old new)
    (o : Option Outcome) →
    IfSome o (λ outcome.
    (all.outcome ≡ outcome) × (course.unwritten ≡ []) × (all.kept ≡ kept_by kept (calls course.done))) →
    IfSome o (λ outcome. EndsAs all outcome old new)
whole_by course None end = tt
whole_by {old = old} course (Some outcome) end = record {
  ended = end.0;
  written = course.written ∙ ap (grown old.written) (rw (course.all_bytes, end.1, append-nil) refl);
  kept = rw (course.stored, end.2) refl;
}

-- a run that was not cut short has gone by the whole transcript
pub whole_of :
    {all : Transcript} {kept : Held} {status : Status} {old new : Outside} → Course all kept status old new →
    IsWhole all status old new
whole_of {status = status} course = whole_by course (final status) course.ended

reads_last :
    {reads passed : List Read} (coming : List Read) {bytes : ℕ} {log log' : Option (List (List ℕ))} →
    reads ≡ passed ++ coming → IsLastAt passed bytes → log' ≡ grown log (names_read passed) →
    ReadsLast reads bytes log log'
reads_last coming all last asked = record {
  earlier = last.earlier;
  last = last.last;
  coming = coming;
  all = rw (all, last.all, append_assoc) refl;
  asked = rw (asked, last.all) refl;
  before = last.before;
}

-- it has gone by a part of it
pub part_of :
    {all : Transcript} {kept : Held} {status : Status} {old new : Outside} → Course all kept status old new →
    WritesPart all kept status old new
part_of course = record {
  bytes = course.bytes;
  unwritten = course.unwritten;
  all_bytes = course.all_bytes;
  written = course.written;
  done = course.done;
  failed = course.failed;
  coming = course.ahead;
  all_uses = course.all_uses;
  used = course.used;
  stored = course.stored;
  unstored = course.unstored;
  unread = λ is. reads_last course.coming course.all_reads (course.unread is) course.asked;
}

-- and so have its reads
pub asks_of :
    {all : Transcript} {kept : Held} {status : Status} {old new : Outside} → Course all kept status old new →
    AsksPart all old.asked new.asked
asks_of course = record {
  passed = course.passed;
  coming = course.coming;
  all_reads = course.all_reads;
  asked = course.asked;
}

-- nothing but want of memory cuts a run short in which nothing failed
pub uncut :
    {P Q R : Type 0} (status : Status) →
    (status ≡ end_by.Unread → P) → (status ≡ end_by.Unwritten → Q) → (status ≡ end_by.Unstored → R) →
    ¬ P → ¬ Q → ¬ R → IsUncut status
uncut end_by.Done read wrote stored p q r = inl refl
uncut end_by.Memory read wrote stored p q r = inr refl
uncut (end_by.Usage cause) read wrote stored p q r = inl refl
uncut (end_by.Script fault) read wrote stored p q r = inl refl
uncut end_by.Unread read wrote stored p q r = absurd (p (read refl))
uncut end_by.Unwritten read wrote stored p q r = absurd (q (wrote refl))
uncut end_by.Unstored read wrote stored p q r = absurd (r (stored refl))

-- the same course, where what is told of the outside at its end is said in other words
pub course_there :
    {o p : Option Held} (words : List (List ℕ)) {status : Status} {old new other : Outside} →
    ForSome o (λ held. ForSome p (λ kept. Course (transcript words held kept) kept status old new)) → new ≡ other →
    ForSome o (λ held. ForSome p (λ kept. Course (transcript words held kept) kept status old other))
course_there words course is = rw (← is) course

-- the same of whatever is told of files and store
pub whole_told :
    (o p : Option Held) (words : List (List ℕ)) (status : Status) (old new : Outside) →
    ForSome o (λ held. ForSome p (λ kept. Course (transcript words held kept) kept status old new)) →
    IfSome o (λ held. IfSome p (λ kept. IsWhole (transcript words held kept) status old new))
whole_told o p words status old new course =
    if_both o p (λ held kept. IsWhole (transcript words held kept) status old new)
    (λ held is kept keeps. whole_of (course held is kept keeps))

pub course_told :
    (o p : Option Held) (words : List (List ℕ)) (status : Status) (old new : Outside) →
    ForSome o (λ held. ForSome p (λ kept. Course (transcript words held kept) kept status old new)) →
    IfSome o (λ held. IfSome p (λ kept. Course (transcript words held kept) kept status old new))
course_told o p words status old new course =
    if_both o p (λ held kept. Course (transcript words held kept) kept status old new) course

pub part_told :
    (o p : Option Held) (words : List (List ℕ)) (status : Status) (old new : Outside) →
    ForSome o (λ held. ForSome p (λ kept. Course (transcript words held kept) kept status old new)) →
    IfSome o (λ held. IfSome p (λ kept. WritesPart (transcript words held kept) kept status old new))
part_told o p words status old new course =
    if_both o p (λ held kept. WritesPart (transcript words held kept) kept status old new)
    (λ held is kept keeps. part_of (course held is kept keeps))

pub asks_told :
    (o p : Option Held) (words : List (List ℕ)) (status : Status) (old new : Outside) →
    ForSome o (λ held. ForSome p (λ kept. Course (transcript words held kept) kept status old new)) →
    IfSome o (λ held. IfSome p (λ kept. AsksPart (transcript words held kept) old.asked new.asked))
asks_told o p words status old new course =
    if_both o p (λ held kept. AsksPart (transcript words held kept) old.asked new.asked)
    (λ held is kept keeps. asks_of (course held is kept keeps))
