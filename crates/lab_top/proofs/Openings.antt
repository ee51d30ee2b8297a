-- The course of a run, from the words and the read of its script on.
use Rattle.std.proofs.Common.{◌≡◌, ◌∙◌, ℕ, List, [], ◌∷◌, Option, IfSome, sym, refl}
use Rattle.std.specs.FinMap.{get}
use Rattle.std.specs.Option.{ForSome}
use Rattle.lab_io.specs.Asked.{AskedNames, AsksSome}
use Rattle.lab_io.specs.Known.{grown}
use Rattle.lab_io.specs.Held.{Held}
use Rattle.lab_io.proofs.Asking.{asks_all, asks_one}
use Rattle.lab_io.proofs.Grown.{grown-nil}
use Rattle.lab_state.specs.Run.{run}
use Rattle.lab_arguments.specs.declared.request.UsageCause.{UsageCause}
use Rattle.lab_arguments.specs.Usage.{usage_line}
use Rattle.resc_vars.specs.declared.cause.ScriptCause.{ScriptCause}
use Rattle.monitor.specs.declared.fault.ScriptFault.{ScriptFault}
use Rattle.monitor.specs.declared.setting.Setting.{Setting}
use Rattle.monitor.specs.Answer.{fault_at}
use Rattle.monitor.specs.State.{LinePlace, started}
use Rattle.lab_top.specs.declared.script.Opened.{Opened}
use Rattle.lab_top.specs.declared.script.Opened.TheVariants as opened_by
use Rattle.lab_top.specs.declared.status.Status.{Status}
use Rattle.lab_top.specs.declared.status.Status.TheVariants as end_by
use Rattle.lab_top.specs.Content.{Content, Readable, Faulty, content_of}
use Rattle.lab_top.specs.Headline.{Course, OnRefused, Outside, WritesUsage}
use Rattle.lab_top.specs.Request as asked_by
use Rattle.lab_top.specs.Request.{Refused, Gen, request_of}
use Rattle.lab_gen.specs.Summary.{summary_of}
use Rattle.lab_top.specs.Transcript.{Done, Usage, Script, commands_of, begun, run_of, transcript}
use Rattle.lab_top.specs.Inner.Course.{IsEnd}
use Rattle.lab_top.specs.Inner.Opened.{IsOpened, IsRefused}
use Rattle.lab_top.proofs.Courses.{LeavesStore, course_after, course_ended, course_memory, course_stopped}
use Rattle.lab_top.proofs.Courses.{course_unread}

-- what holds if a value is told holds of the value that is told
pub told : {A : Type 0} {o : Option A} (P : A → Type 0) → IfSome o P → ForSome o P
told P fact x is = rw is at fact

-- ---- how a file was opened

-- a file that is faulty was refused so, or memory ran out
pub refused_content : (is : Content) (name : List ℕ) (place : LinePlace) (cause : ScriptCause) (opened : Opened)
    (log log' : AskedNames) →
    is ≡ Faulty (fault_at place cause) → log' ≡ grown log (name ∷ []) → IsRefused place cause opened →
    IsOpened is name opened log log'
refused_content is name place cause (opened_by.Text text) log log' so asked refused = absurd refused
refused_content is name place cause (opened_by.Refused fault) log log' so asked refused = (rw refused so, asked)
refused_content is name place cause opened_by.Unread log log' so asked refused = absurd refused
refused_content is name place cause opened_by.Memory log log' so asked refused = asks_all (name ∷ []) log log' asked

-- ---- the run of a script

-- a script was opened, and its commands went by their course
pub opening_goes :
    {status : Status} {old mid new : Outside} (held kept : Held) (script text : List ℕ) (setting : Setting) →
    content_of script (get held script) ≡ Readable text →
    mid.written ≡ old.written → mid.asked ≡ grown old.asked (script ∷ []) → mid.used ≡ old.used →
    Course (commands_of run held kept (started script text setting)) kept status mid new →
    Course (run_of run held kept script setting) kept status old new
opening_goes {old = old} held kept script text setting is wrote asked used course =
    rw is (course_after (script ∷ []) [] (commands_of run held kept (started script text setting))
    (wrote ∙ sym (grown-nil old.written)) asked used course)

-- a script is refused before its first line
pub opening_faults :
    {status : Status} {old new : Outside} (held kept : Held) (script : List ℕ) (setting : Setting)
    (fault : ScriptFault) →
    content_of script (get held script) ≡ Faulty fault → new.asked ≡ grown old.asked (script ∷ []) →
    LeavesStore kept old new → IsEnd [] (Script fault) status old.written new.written →
    Course (run_of run held kept script setting) kept status old new
opening_faults held kept script setting fault is asked store end =
    rw is (course_stopped (script ∷ []) [] (Script fault) asked store end)

-- a script could not be read
pub opening_unread :
    {old new : Outside} (held kept : Held) (script : List ℕ) (setting : Setting) →
    new.written ≡ old.written → LeavesStore kept old new → new.asked ≡ grown old.asked (script ∷ []) →
    Course (run_of run held kept script setting) kept end_by.Unread old new
opening_unread held kept script setting wrote store asked =
    course_unread (script ∷ []) [] (begun run held kept script setting (content_of script (get held script))) wrote
    store (asks_one script _ _ asked)

-- memory ran out, before the first line
pub opening_memory :
    {old new : Outside} (held kept : Held) (script : List ℕ) (setting : Setting) →
    new.written ≡ old.written → LeavesStore kept old new → AsksSome (script ∷ []) old.asked new.asked →
    Course (run_of run held kept script setting) kept end_by.Memory old new
opening_memory held kept script setting wrote store asks =
    course_memory (script ∷ []) [] (begun run held kept script setting (content_of script (get held script))) wrote
    store asks

-- ---- the words

-- memory ran out before the words were read
pub unread_words : (asked : asked_by.Request) (at : Outside) → OnRefused asked (WritesUsage end_by.Memory at at)
unread_words (asked_by.Refused cause) at = record {
  bytes = [];
  unwritten = usage_line;
  all_bytes = refl;
  written = sym (grown-nil at.written);
  whole = tt;
  asked = refl;
  used = refl;
  kept = refl;
}
unread_words (asked_by.Run script setting) at = tt
unread_words (asked_by.Gen seed boards) at = tt

-- the words were refused
pub words_refused :
    {status : Status} {old new : Outside} (held kept : Held) (words : List (List ℕ)) (cause : UsageCause) →
    request_of words ≡ Refused cause → new.asked ≡ old.asked → LeavesStore kept old new →
    IsEnd [] (Usage cause) status old.written new.written →
    Course (transcript words held kept) kept status old new
words_refused held kept words cause is asked store end =
    rw (is, transcript) (course_ended (Usage cause) asked store end)

-- a generated laboratory was run and its summary written, or a part of it
pub words_generated :
    {status : Status} {old new : Outside} (held kept : Held) (words : List (List ℕ)) (seed boards : ℕ) →
    request_of words ≡ Gen seed boards → new.asked ≡ old.asked → LeavesStore kept old new →
    IsEnd (summary_of run seed boards) Done status old.written new.written →
    Course (transcript words held kept) kept status old new
words_generated {old = old} held kept words seed boards is asked store end =
    rw (is, transcript)
    (course_stopped [] (summary_of run seed boards) Done (asked ∙ sym (grown-nil old.asked)) store end)
