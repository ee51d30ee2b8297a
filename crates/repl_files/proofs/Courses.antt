-- How a loading goes on, entry by entry.
use Rattle.std.proofs.Common.{◌≡◌, ◌∷◌, ◌++◌, ◌∙◌, ℕ, List, [], length, Result, Ok, Err, refl, sym, ap, subst}
use Rattle.std.proofs.Common.{append_assoc, append-nil, length-append}
use Rattle.repl_read.specs.declared.entry.Entry.{Entry}
use Rattle.repl_files.specs.declared.fault.LoadFault.{LoadFault}
use Rattle.repl_files.specs.declared.fault.LoadFault.TheVariants.{At, TooLarge, Unread, Memory}
use Rattle.repl_files.specs.declared.load.Loaded.{Loaded}
use Rattle.lab_io.specs.Asked.{AskedNames}
use Rattle.repl_files.specs.Loaded.{IsStopped}
use Rattle.repl_files.specs.Loading.{Gives, Loading, Outcome, Joined, Refused, Oversized, Absent, go_on, one, in_order}
use Rattle.repl_files.specs.Inner.Course.{Adds, IsCourse}
use Rattle.lab_io.proofs.Asking.{up_to_more, some_more, up_to_behind, some_behind}
use Rattle.lab_io.proofs.Grown.{grown-append, grown-nil}

-- after the names of the first part come others, or none
rest_names : (names : List (List ℕ)) (outcome : Outcome) (rest : Loading) →
    (more : List (List ℕ)) × ((go_on names outcome rest).names ≡ names ++ more)
rest_names names (Joined entries) rest = (rest.names, refl)
rest_names names (Refused fault) rest = ([], sym (append-nil names))
rest_names names Oversized rest = ([], sym (append-nil names))
rest_names names Absent rest = ([], sym (append-nil names))

-- a part was joined, and then the rest went by its course
pub course_after :
    (first rest : Loading) (result : Result (Unit {0}) LoadFault) (old mid new : Loaded)
    (log between log' : AskedNames) →
    Adds first old mid log between → IsCourse rest result mid new between log' →
    IsCourse (go_on first.names first.outcome rest) result old new log log'
course_after first rest (Ok done) old mid new log between log' adds course = record {
  added = adds.added ++ course.added;
  outcome = rw (adds.outcome, course.outcome) refl;
  entries = rw (course.entries, adds.entries, append_assoc) refl;
  names = rw (adds.outcome, course.names, adds.names, append_assoc) refl;
  asked = rw (adds.outcome, course.asked, adds.asked, grown-append log first.names rest.names) refl;
}
course_after first rest (Err (At fault)) old mid new log between log' adds course =
    rw (adds.outcome, course.0, course.1, adds.asked) (refl, grown-append log first.names rest.names)
course_after first rest (Err TooLarge) old mid new log between log' adds course =
    rw (adds.outcome, course.0, course.1, adds.asked) (refl, grown-append log first.names rest.names)
course_after first rest (Err Unread) old mid new log between log' adds course =
    rw adds.outcome (up_to_behind first.names rest.names log between log' adds.asked course)
course_after first rest (Err Memory) old mid new log between log' adds course =
    rw adds.outcome (some_behind first.names rest.names log between log' adds.asked course)

-- a part was stopped or cut short, and with it the whole
stopped_in : (first rest : Loading) (fault : LoadFault) (log log' : AskedNames) →
    IsStopped first fault log log' → IsStopped (go_on first.names first.outcome rest) fault log log'
stopped_in first rest (At fault) log log' stop = rw stop.0 (refl, stop.1)
stopped_in first rest TooLarge log log' stop = rw stop.0 (refl, stop.1)
stopped_in first rest Unread log log' stop =
    let more = rest_names first.names first.outcome rest in up_to_more first.names more.0 _ log log' more.1 stop
stopped_in first rest Memory log log' stop =
    let more = rest_names first.names first.outcome rest in some_more first.names more.0 _ log log' more.1 stop

module _ (gives : Gives) (file : List ℕ) (number : ℕ) where
  -- an entry was joined, and then those after it went by their course
  course_more : (entry : Entry) (entries : List Entry) (result : Result (Unit {0}) LoadFault) (old mid new : Loaded)
      (log between log' : AskedNames) → Adds (one gives file number (length old.names.items) entry)
      old mid log between →
      IsCourse (in_order gives file number (length mid.names.items) entries) result mid new between log' →
      IsCourse (in_order gives file number (length old.names.items) (entry ∷ entries)) result old new log log'
  course_more entry entries result old mid new log between log' adds course =
      let first = one gives file number (length old.names.items) entry in
      let from : ℕ → Type 0 = λ n. IsCourse (in_order gives file number n entries) result mid new between log' in
      course_after first _ result old mid new log between log' adds
      (subst from (ap length adds.names ∙ length-append old.names.items first.names) course)

  -- the first of these entries was joined, and then those after it went by their course
  pub course_step : (all : List Entry) (entry : Entry) (entries : List Entry) (result : Result (Unit {0}) LoadFault)
      (old mid new : Loaded) (log between log' : AskedNames) → all ≡ entry ∷ entries →
      Adds (one gives file number (length old.names.items) entry) old mid log between →
      IsCourse (in_order gives file number (length mid.names.items) entries) result mid new between log' →
      IsCourse (in_order gives file number (length old.names.items) all) result old new log log'
  course_step all entry entries result old mid new log between log' is adds course =
      rw is (course_more entry entries result old mid new log between log' adds course)

  -- the first of these entries was stopped or cut short
  pub stopped_step : (count : ℕ) (all : List Entry) (entry : Entry) (entries : List Entry) (fault : LoadFault)
      (log log' : AskedNames) → all ≡ entry ∷ entries → IsStopped (one gives file number count entry) fault log log' →
      IsStopped (in_order gives file number count all) fault log log'
  stopped_step count all entry entries fault log log' is stop =
      rw is (stopped_in (one gives file number count entry) _ fault log log' stop)

  -- no entry is left
  pub course_end : (all : List Entry) (old : Loaded) (log : AskedNames) → all ≡ [] →
      Adds (in_order gives file number (length old.names.items) all) old old log log
  course_end all old log is = rw is (record {
    added = [];
    outcome = refl;
    entries = sym (append-nil old.entries.items);
    names = sym (append-nil old.names.items);
    asked = sym (grown-nil log);
  })
