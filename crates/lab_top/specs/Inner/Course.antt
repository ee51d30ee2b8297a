-- How a run goes along a transcript.
use Rattle.std.specs.Prelude.{◌≡◌, ◌≢◌, ℕ, List, [], ◌++◌, Option, Some, Result, Ok, Err, IfSome}
use Rattle.lab_io.specs.Held.{Held}
use Rattle.lab_io.specs.Known.{grown}
use Rattle.lab_top.specs.declared.status.Status.{Status}
use Rattle.lab_top.specs.declared.status.Status.TheVariants as end_by
use Rattle.monitor.specs.Step.{Running}
use Rattle.lab_top.specs.Transcript.{Outcome, Further, Transcript, last_line}
use Rattle.lab_top.specs.Headline.{Course, Outside, final}

-- A run has written this text and the last line of its outcome, up to where it was cut short, if it was. It was not
-- cut short by a read or by a call on the store.
pub record IsEnd (written : List ℕ) (outcome : Outcome) (status : Status) (out out' : Option (List ℕ)) : Type 0 where
  pub bytes : List ℕ
  pub unwritten : List ℕ
  pub all : written ++ last_line outcome ≡ bytes ++ unwritten
  pub grows : out' ≡ grown out bytes
  pub ended : IfSome (final status) (λ is. (outcome ≡ is) × (unwritten ≡ []))
  pub never : status ≢ end_by.Unread
  pub nor : status ≢ end_by.Unstored

-- A run has gone along a transcript to where this is kept, and what is left of it then is this rest.
pub record GoesOn (all : Transcript) (kept : Held) (old mid : Outside) (rest : Held → Transcript) : Type 0 where
  pub now : Held
  pub told : mid.kept ≡ Some now
  pub course : (status : Status) (new : Outside) → Course (rest now) now status mid new → Course all kept status old new

-- a command was taken, and the run goes on with the monitor after it, or has ended
abbrev pub IsTaken : Transcript → Held → Further → Outside → Outside → Result Running Status → Type 0
IsTaken all kept further old mid (Ok monitor) = GoesOn all kept old mid (λ now. further now monitor.state)
IsTaken all kept further old mid (Err status) = Course all kept status old mid
