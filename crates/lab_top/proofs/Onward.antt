-- One step of a run, in its transcript and in its course.
use Rattle.std.proofs.Common.{◌≡◌, ◌∙◌, ℕ, suc, ◌+◌, ◌-◌, ◌≤◌, List, [], Option, Result, Ok, Err}
use Rattle.std.proofs.Common.{refl, sym, arith}
use Rattle.lab_io.specs.Asked.{AsksSome, AsksUpTo}
use Rattle.lab_io.specs.Held.{Held}
use Rattle.lab_io.specs.Known.{grown}
use Rattle.lab_io.specs.Sink.{IsPartWritten}
use Rattle.lab_io.specs.declared.sink.WriteFault.{WriteFault}
use Rattle.lab_io.proofs.Grown.{grown-nil}
use Rattle.lab_snap.specs.Saved.{spelling}
use Rattle.lab_state.specs.Names.{names as names_of}
use Rattle.lab_state.specs.Run.{run}
use Rattle.log_text.specs.Log.{rest}
use Rattle.monitor.specs.declared.fault.ScriptFault.{ScriptFault}
use Rattle.monitor.specs.declared.step.Step.TheVariants.{Text, Save, Load, End, Fault, Unread, Memory}
use Rattle.monitor.specs.Answer.{Answer, Goes, Saves, Loads, Ends, Faults, Misses, Did, fault_at}
use Rattle.monitor.specs.Command.{did}
use Rattle.monitor.specs.State.{State, LinePlace}
use Rattle.monitor.specs.Step.{Running, IsStep, IsOver, line_in}
use Rattle.resc_vars.specs.declared.cause.ScriptCause.{ScriptCause}
use Rattle.lab_top.specs.declared.snapshots.StoreHalt.{StoreHalt}
use Rattle.lab_top.specs.declared.snapshots.StoreHalt.TheVariants as halt
use Rattle.lab_top.specs.declared.status.Status.{Status}
use Rattle.lab_top.specs.declared.status.Status.TheVariants as end_by
use Rattle.lab_top.specs.Transcript.{Further, Transcript, Done, Script, Absent}
use Rattle.lab_top.specs.Transcript.{after, ended, refused, stopped, onward, from, saving, loading}
use Rattle.lab_top.specs.Headline.{Course, Outside, refusal}
use Rattle.lab_top.specs.Inner.Course.{GoesOn, IsEnd}
use Rattle.lab_top.specs.Inner.Stored.{IsStored}
use Rattle.lab_top.proofs.Courses.{LeavesStore, course_after, course_cut, course_memory, course_stopped, course_unread}

from_suc : (more : ℕ) (held kept : Held) (s : State) →
    from (suc more) run held kept s ≡ onward (from more run held) kept s (did run held s)
unfolding from
from_suc more held kept s = refl

onward_goes :
    (further : Further) (kept : Held) (s : State) (done : Did) (text : List ℕ) (next : State) →
    done.answer ≡ Goes text next → onward further kept s done ≡ after done.names text (further kept next)
onward_goes further kept s done text next is = rw is refl

onward_saves :
    (further : Further) (kept : Held) (s : State) (done : Did) (name : List ℕ) (place : LinePlace) (next : State) →
    done.answer ≡ Saves name place next →
    onward further kept s done
    ≡ after done.names [] (saving further kept name place next (spelling next.lab next.lines))
onward_saves further kept s done name place next is = rw is refl

onward_loads :
    (further : Further) (kept : Held) (s : State) (done : Did) (name : List ℕ) (place : LinePlace) (next : State) →
    done.answer ≡ Loads name place next →
    onward further kept s done ≡ after done.names [] (loading further kept name place next)
onward_loads further kept s done name place next is = rw is refl

onward_ends : (further : Further) (kept : Held) (s : State) (done : Did) → done.answer ≡ Ends →
    onward further kept s done ≡ stopped kept done.names s Done
onward_ends further kept s done is = rw is refl

onward_faults : (further : Further) (kept : Held) (s : State) (done : Did) (fault : ScriptFault) →
    done.answer ≡ Faults fault → onward further kept s done ≡ stopped kept done.names s (Script fault)
onward_faults further kept s done fault is = rw is refl

-- a run goes on, and then further on
pub goes_further :
    {all : Transcript} {kept : Held} {old mid new : Outside} {further next : Held → Transcript}
    (on : GoesOn all kept old mid further) → GoesOn (further on.now) on.now mid new next →
    GoesOn all kept old new next
goes_further on step = record {
  now = step.now;
  told = step.told;
  course = λ status last course. on.course status last (step.course status last course);
}

-- these names were read and this text was written, and the run goes on
goes_after :
    {kept : Held} {old mid : Outside} (names : List (List ℕ)) (text : List ℕ) (further : Held → Transcript) →
    mid.written ≡ grown old.written text → mid.asked ≡ grown old.asked names → LeavesStore kept old mid →
    GoesOn (after names text (further kept)) kept old mid further
goes_after {kept} names text further wrote asked store = record {
  now = kept;
  told = store.told;
  course = λ status new course. course_after names text (further kept) wrote asked store.used course;
}

-- a command has printed a text, which was written whole
pub step_says :
    {old mid : Outside} (more : ℕ) (held kept : Held) (s next : State) (text : List ℕ) →
    IsStep (did run held s) (Text text) next old.asked mid.asked → mid.written ≡ grown old.written text →
    LeavesStore kept old mid →
    GoesOn (from (suc more) run held kept s) kept old mid (λ now. from more run held now next)
step_says more held kept s next text step wrote store =
    rw (from_suc more held kept s, onward_goes (from more run held) kept s (did run held s) text next step.0)
    (goes_after (did run held s).names text (λ now. from more run held now next) wrote step.1 store)

-- a part of it was written
pub step_cut :
    {old new : Outside} (more : ℕ) (held kept : Held) (s next : State) (text : List ℕ) (fault : WriteFault) →
    IsStep (did run held s) (Text text) next old.asked new.asked → IsPartWritten old.written text new.written →
    LeavesStore kept old new → Course (from (suc more) run held kept s) kept (refusal fault) old new
step_cut more held kept s next text fault step part store =
    rw (from_suc more held kept s, onward_goes (from more run held) kept s (did run held s) text next step.0)
    (course_cut (did run held s).names text (from more run held kept next) fault part step.1 store)

-- these names were read, and then a command for the store was carried out so
stored_after :
    (kept : Held) (old mid new : Outside) (names : List (List ℕ)) (rest : Transcript) (further : Further)
    (place : LinePlace) (result : Result Running (StoreHalt Running)) →
    mid.written ≡ old.written → mid.asked ≡ grown old.asked names → mid.used ≡ old.used →
    IsStored rest kept further place mid new result → IsStored (after names [] rest) kept further place old new result
stored_after kept old mid new names rest further place (Ok monitor) wrote asked used on = record {
  now = on.now;
  told = on.told;
  course = λ status last course.
      course_after names [] rest (wrote ∙ sym (grown-nil old.written)) asked used (on.course status last course);
}
stored_after kept old mid new names rest further place (Err (halt.Refused cause monitor)) wrote asked used on = record {
  now = on.now;
  told = on.told;
  course = λ status last course.
      course_after names [] rest (wrote ∙ sym (grown-nil old.written)) asked used (on.course status last course);
}
stored_after kept old mid new names rest further place (Err halt.Unstored) wrote asked used course =
    course_after names [] rest (wrote ∙ sym (grown-nil old.written)) asked used course
stored_after kept old mid new names rest further place (Err halt.Memory) wrote asked used course =
    course_after names [] rest (wrote ∙ sym (grown-nil old.written)) asked used course

-- the laboratory is to be kept, and what became of that
pub step_saves :
    (old mid new : Outside) (more : ℕ) (held kept : Held) (s next : State) (name file : List ℕ) (line : ℕ)
    (result : Result Running (StoreHalt Running)) →
    IsStep (did run held s) (Save name file line) next old.asked mid.asked →
    mid.written ≡ old.written → mid.used ≡ old.used →
    IsStored (saving (from more run held) kept name (line_in file line) next (spelling next.lab next.lines)) kept
    (from more run held) (line_in file line) mid new result →
    IsStored (from (suc more) run held kept s) kept (from more run held) (line_in file line) old new result
step_saves old mid new more held kept s next name file line result step wrote used stored =
    rw (
      from_suc more held kept s,
      onward_saves (from more run held) kept s (did run held s) name (line_in file line) next step.0,
    )
    (stored_after kept old mid new (did run held s).names _ (from more run held) (line_in file line) result wrote
    step.1 used stored)

-- it is to be taken back, and what became of that
pub step_loads :
    (old mid new : Outside) (more : ℕ) (held kept : Held) (s next : State) (name file : List ℕ) (line : ℕ)
    (result : Result Running (StoreHalt Running)) →
    IsStep (did run held s) (Load name file line) next old.asked mid.asked →
    mid.written ≡ old.written → mid.used ≡ old.used →
    IsStored (loading (from more run held) kept name (line_in file line) next) kept (from more run held)
    (line_in file line) mid new result →
    IsStored (from (suc more) run held kept s) kept (from more run held) (line_in file line) old new result
step_loads old mid new more held kept s next name file line result step wrote used stored =
    rw (
      from_suc more held kept s,
      onward_loads (from more run held) kept s (did run held s) name (line_in file line) next step.0,
    )
    (stored_after kept old mid new (did run held s).names _ (from more run held) (line_in file line) result wrote
    step.1 used stored)

-- what is printed where a script is over
abbrev pub left : Running → List ℕ
left m = rest (names_of m.state.lab) m.state.lines

left_over : (old new : Running) → IsOver old new → left new ≡ left old
left_over old new over = rw (over.lab, over.lines) refl

-- the script has ended
pub step_ends :
    {status : Status} {old new : Outside} (more : ℕ) (held kept : Held) (m next : Running) →
    IsStep (did run held m.state) End next.state old.asked new.asked → IsOver m next → LeavesStore kept old new →
    IsEnd (left next) Done status old.written new.written →
    Course (from (suc more) run held kept m.state) kept status old new
step_ends more held kept m next step over store end =
    rw (from_suc more held kept m.state, onward_ends (from more run held) kept m.state (did run held m.state) step.0)
    (course_stopped (did run held m.state).names (left m) Done step.1 store (rw (left_over m next over) at end))

-- a line was refused
pub step_faults :
    {status : Status} {old new : Outside} (more : ℕ) (held kept : Held) (m next : Running) (fault : ScriptFault) →
    IsStep (did run held m.state) (Fault fault) next.state old.asked new.asked → IsOver m next →
    LeavesStore kept old new → IsEnd (left next) (Script fault) status old.written new.written →
    Course (from (suc more) run held kept m.state) kept status old new
step_faults more held kept m next fault step over store end =
    rw (
      from_suc more held kept m.state,
      onward_faults (from more run held) kept m.state (did run held m.state) fault step.0,
    )
    (course_stopped (did run held m.state).names (left m) (Script fault) step.1 store
    (rw (left_over m next over) at end))

unread_in :
    {kept : Held} {old new : Outside}
    (further : Further) (s : State) (names : List (List ℕ)) (answer : Answer) →
    new.written ≡ old.written → LeavesStore kept old new → AsksUpTo names old.asked new.asked →
    Course (onward further kept s (record { names = names; answer = answer })) kept end_by.Unread old new
unread_in {kept} further s names (Goes text next) wrote store asks =
    course_unread names text (further kept next) wrote store asks
unread_in {kept} further s names (Saves name place next) wrote store asks =
    course_unread names [] (saving further kept name place next (spelling next.lab next.lines)) wrote store asks
unread_in {kept} further s names (Loads name place next) wrote store asks =
    course_unread names [] (loading further kept name place next) wrote store asks
unread_in {kept} further s names Ends wrote store asks =
    course_unread names (rest (names_of s.lab) s.lines) (ended kept Done) wrote store asks
unread_in {kept} further s names (Faults fault) wrote store asks =
    course_unread names (rest (names_of s.lab) s.lines) (ended kept (Script fault)) wrote store asks
unread_in {kept} further s names Misses wrote store asks =
    course_unread names [] (ended kept Absent) wrote store asks

-- a read failed
pub step_unread :
    {old new : Outside} (more : ℕ) (held kept : Held) (s next : State) →
    IsStep (did run held s) Unread next old.asked new.asked → new.written ≡ old.written → LeavesStore kept old new →
    Course (from (suc more) run held kept s) kept end_by.Unread old new
step_unread more held kept s next step wrote store =
    rw (from_suc more held kept s)
    (unread_in (from more run held) s (did run held s).names (did run held s).answer wrote store step)

memory_in :
    {kept : Held} {old new : Outside}
    (further : Further) (s : State) (names : List (List ℕ)) (answer : Answer) →
    new.written ≡ old.written → LeavesStore kept old new → AsksSome names old.asked new.asked →
    Course (onward further kept s (record { names = names; answer = answer })) kept end_by.Memory old new
memory_in {kept} further s names (Goes text next) wrote store asks =
    course_memory names text (further kept next) wrote store asks
memory_in {kept} further s names (Saves name place next) wrote store asks =
    course_memory names [] (saving further kept name place next (spelling next.lab next.lines)) wrote store asks
memory_in {kept} further s names (Loads name place next) wrote store asks =
    course_memory names [] (loading further kept name place next) wrote store asks
memory_in {kept} further s names Ends wrote store asks =
    course_memory names (rest (names_of s.lab) s.lines) (ended kept Done) wrote store asks
memory_in {kept} further s names (Faults fault) wrote store asks =
    course_memory names (rest (names_of s.lab) s.lines) (ended kept (Script fault)) wrote store asks
memory_in {kept} further s names Misses wrote store asks =
    course_memory names [] (ended kept Absent) wrote store asks

-- memory ran out
pub step_memory :
    {old new : Outside} (more : ℕ) (held kept : Held) (s next : State) →
    IsStep (did run held s) Memory next old.asked new.asked → new.written ≡ old.written → LeavesStore kept old new →
    Course (from (suc more) run held kept s) kept end_by.Memory old new
step_memory more held kept s next step wrote store =
    rw (from_suc more held kept s)
    (memory_in (from more run held) s (did run held s).names (did run held s).answer wrote store step)

-- in a turn within the limit a command is left
pub at_turn : (turn : ℕ) (held kept : Held) (s : State) → turn ≤ 100000 →
    from (100001 - turn) run held kept s ≡ from (suc (100000 - turn)) run held kept s
at_turn turn held kept s within =
    let count : 100001 - turn ≡ suc (100000 - turn) = omega arith in
    rw count refl

-- and after it there is one fewer
pub turn_goes :
    {old new : Outside} (turn : ℕ) (held kept : Held) (s next : State) → turn ≤ 100000 →
    GoesOn (from (suc (100000 - turn)) run held kept s) kept old new (λ now. from (100000 - turn) run held now next) →
    GoesOn (from (100001 - turn) run held kept s) kept old new (λ now. from (100001 - (turn + 1)) run held now next)
turn_goes turn held kept s next within goes =
    let count : 100001 - turn ≡ suc (100000 - turn) = omega arith in
    let later : 100001 - (turn + 1) ≡ 100000 - turn = omega arith in
    rw (count, later) goes

-- a line that is for the store is refused
pub refused_ends :
    (all : Transcript) (kept : Held) (old mid : Outside) (place : LinePlace) (cause : ScriptCause) (m : Running)
    (status : Status) (out out' : Option (List ℕ)) →
    GoesOn all kept old (record mid { written = out }) (λ now. refused now place m.state cause) →
    IsEnd (left m) (Script (fault_at place cause)) status out out' →
    Course all kept status old (record mid { written = out' })
refused_ends all kept old mid place cause m status out out' on end =
    on.course status (record mid { written = out' })
    (course_stopped [] (left m) (Script (fault_at place cause)) (sym (grown-nil mid.asked))
    (record { used = refl; told = on.told }) end)
