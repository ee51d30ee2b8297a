-- What a command has done whose text goes to an output, by what it has done and what was written.
use Rattle.std.proofs.Common.{◌≡◌, ◌∙◌, ℕ, true, false, List, [], Option, Result, Ok, Err, Vec, refl, sym, ap}
use Rattle.std.specs.Global.{Global}
use Rattle.lab_io.specs.declared.files.Files.{Ghosts}
use Rattle.lab_io.specs.declared.sink.Sink.{Ghosts as SinkGhosts}
use Rattle.lab_io.specs.declared.sink.WriteFault.{WriteFault}
use Rattle.lab_io.specs.declared.sink.WriteFault.TheVariants.{Unwritten}
use Rattle.lab_io.specs.Asked.{AskedNames}
use Rattle.lab_io.specs.Frame.{OnlyWrites}
use Rattle.lab_io.specs.Held.{Held}
use Rattle.lab_io.specs.Known.{grown}
use Rattle.lab_io.specs.Sink.{IsPartWritten}
use Rattle.lab_io.proofs.Frames.{reads_as, reads_none, writes_as, writes_none}
use Rattle.lab_io.proofs.Grown.{grown-nil}
use Rattle.resc_vars.specs.declared.cause.ScriptCause.{ScriptCause}
use Rattle.monitor.specs.declared.halt.Halt.{Halt}
use Rattle.monitor.specs.declared.halt.Halt.TheVariants as halt
use Rattle.monitor.specs.declared.progress.Progress.TheVariants as progress
use Rattle.monitor.specs.declared.stop.Stop.{Stop}
use Rattle.monitor.specs.declared.stop.Stop.TheVariants.{Store, Quit, Line, File, Content, Unread, Memory}
use Rattle.monitor.specs.declared.stop.Storing.TheVariants as storing
use Rattle.monitor.specs.Answer.{Did, Done, answer_at, unread}
use Rattle.monitor.specs.Progress.{IsProgress, stands_for}
use Rattle.monitor.specs.State.{State, LinePlace}
use Rattle.monitor.specs.Step.{Running}
use Rattle.monitor.specs.Inner.Ruling.{IsAfterLine, IsCarried, IsDone, Leaves, ends_script}
use Rattle.monitor.specs.Inner.Writing.{IsRunMade, IsWritten, progress_of}
use Rattle.monitor.proofs.OpenLemmas.{HasOpen, IsKeptBy}
use Rattle.monitor.proofs.Ruled.{done_alone}

module _ {F K : Type 0} {files : Ghosts F} {out : SinkGhosts K} where
  -- a command stops the script, and nothing is written
  pub stopped_unwritten :
      (by : Held → LinePlace → Did) (stop : Stop) (old new : Running) (before after : F) (start : K) →
      IsDone files by (Err stop) old new before after →
      IsWritten files out by (Err (halt.Stop stop)) old new before after start start
  stopped_unwritten by stop old new before after start done = record {
    written = λ place held told. (done.carried place held told, refl);
    leaves = done.leaves;
    keeps = tt;
    reads = reads_as (λ same. cc same) done.reads;
    writes = writes_none (λ same. cc same);
  }

  -- what it prints is written
  pub text_written :
      (by : Held → LinePlace → Did) (text : Vec ℕ Global) (old new : Running) (before after : F) (start end : K)
      (P : Type 0) →
      IsDone files by (Ok text) old new before after → out.written end ≡ grown (out.written start) text.items →
      OnlyWrites out P start end → IsWritten files out by (Ok tt) old new before after start end
  text_written by text old new before after start end P done whole writes = record {
    written = λ place held told.
        let carried = done.carried place held told in
        (text.items, carried.0, carried.1, whole);
    leaves = done.leaves;
    keeps = done.open_lines;
    reads = reads_as (λ same. cc same) done.reads;
    writes = record { faults = writes.faults; counted = λ same. cc same };
  }

  -- a part of it is
  pub text_cut :
      (by : Held → LinePlace → Did) (text : Vec ℕ Global) (old new : Running) (before after : F) (start end : K)
      (fault : WriteFault) →
      IsDone files by (Ok text) old new before after →
      IsPartWritten (out.written start) text.items (out.written end) →
      OnlyWrites out (fault ≡ Unwritten) start end →
      IsWritten files out by (Err (halt.Cut fault)) old new before after start end
  text_cut by text old new before after start end fault done part writes = record {
    written = λ place held told.
        let carried = done.carried place held told in
        (text.items, new.state, carried.0, carried.1, part);
    leaves = done.leaves.ended;
    keeps = tt;
    reads = reads_as (λ same. cc same) done.reads;
    writes = writes_as (λ same. cc same) writes;
  }

  -- a run was made
  pub run_written :
      (ruling : Result Done ScriptCause) (result : Result (Unit {0}) Halt) (old new : Running) (before : F)
      (start end : K) →
      ((place : LinePlace) → HasOpen old.state → IsKeptBy (answer_at place ruling)) →
      IsRunMade ruling result old new (out.written start) (out.written end) →
      OnlyWrites out (result ≡ Err (halt.Cut Unwritten)) start end →
      IsWritten files out (λ held place. unread place ruling) result old new before before start end
  run_written ruling (Ok done) old new before start end keeps made writes =
      let nowhere : LinePlace = record { file = []; number = 0 } in record {
        written = λ place held told.
            (made.0, ap (answer_at place) made.1, sym (grown-nil (files.asked before)), made.3);
        leaves = made.2;
        keeps = λ open_. rw made.1 at (keeps nowhere open_);
        reads = reads_none (λ same. cc same);
        writes = writes;
      }
  run_written ruling (Err (halt.Stop stop)) old new before start end keeps made writes =
      let done = done_alone ruling (Err stop) old new before keeps made.0 in record {
        written = λ place held told. (done.carried place held told, made.1);
        leaves = done.leaves;
        keeps = tt;
        reads = reads_as (λ same. cc same) done.reads;
        writes = writes;
      }
  run_written ruling (Err (halt.Cut fault)) old new before start end keeps made writes = record {
    written = λ place held told.
        (made.0.text, made.0.state, ap (answer_at place) made.1, sym (grown-nil (files.asked before)), made.2);
    leaves = made.3;
    keeps = tt;
    reads = reads_none (λ same. cc same);
    writes = writes;
  }

-- a line after which the monitor does not go on
pub stop_is_progress :
    (did : Did) (place : LinePlace) (stop : Stop) (after : State) (log log' : AskedNames) (out out' : Option (List ℕ)) →
    IsCarried did place (Err stop) after log log' → out' ≡ out →
    IsProgress did (progress_of place stop) after log log' out out'
stop_is_progress did place (Store (storing.Save name)) after log log' out out' is same = (is, same)
stop_is_progress did place (Store (storing.Load name)) after log log' out out' is same = (is, same)
stop_is_progress did place Quit after log log' out out' is same = (is, same)
stop_is_progress did place (Line cause) after log log' out out' is same = (is, same)
stop_is_progress did place (File fault) after log log' out out' is same = (is, same)
stop_is_progress did place (Content cause) after log log' out out' is same = (is, same)
stop_is_progress did place Unread after log log' out out' is same = (is, same)
stop_is_progress did place Memory after log log' out out' is same = (is, same)

still : (old mid : Running) → mid ≡ old → old.ended ≡ true → record mid { ended = true } ≡ old
still old mid same waits = λ i. record {
  state = (same i).state;
  workers = (same i).workers;
  spent = (same i).spent;
  ended = sym waits i;
}

-- and what it leaves
pub stop_after :
    (place : LinePlace) (stop : Stop) (old mid new : Running) → Leaves (Err stop) old mid → old.ended ≡ true →
    new ≡ record mid { ended = ends_script stop } → IsAfterLine (stands_for (progress_of place stop)) old new
stop_after place (Store (storing.Save name)) old mid new same waits is =
    is ∙ ap (λ (r : Running). record r { ended = false }) same
stop_after place (Store (storing.Load name)) old mid new same waits is =
    is ∙ ap (λ (r : Running). record r { ended = false }) same
stop_after place Quit old mid new same waits is = is ∙ still old mid same waits
stop_after place (Line cause) old mid new same waits is = is ∙ still old mid same waits
stop_after place (File fault) old mid new same waits is = is ∙ still old mid same waits
stop_after place (Content cause) old mid new same waits is = is ∙ still old mid same waits
stop_after place Unread old mid new same waits is = is ∙ still old mid same waits
stop_after place Memory old mid new same waits is = ap (λ (r : Running). r.ended) is

pub stop_unread : (place : LinePlace) (stop : Stop) → progress_of place stop ≡ progress.Unread → stop ≡ Unread
stop_unread place (Store (storing.Save name)) is = cc is
stop_unread place (Store (storing.Load name)) is = cc is
stop_unread place Quit is = cc is
stop_unread place (Line cause) is = cc is
stop_unread place (File fault) is = cc is
stop_unread place (Content cause) is = cc is
stop_unread place Unread is = refl
stop_unread place Memory is = cc is

pub stop_uncut : (place : LinePlace) (stop : Stop) (fault : WriteFault) → progress_of place stop ≡ progress.Cut fault →
    ⊥
stop_uncut place (Store (storing.Save name)) fault is = cc is
stop_uncut place (Store (storing.Load name)) fault is = cc is
stop_uncut place Quit fault is = cc is
stop_uncut place (Line cause) fault is = cc is
stop_uncut place (File fault') fault is = cc is
stop_uncut place (Content cause) fault is = cc is
stop_uncut place Unread fault is = cc is
stop_uncut place Memory fault is = cc is
