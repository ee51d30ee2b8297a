-- What the words ask for.
use Rattle.std.specs.Prelude.{ℕ, true, false, List, Result, Ok, Err}
use Rattle.lab_arguments.specs.declared.request.Request.TheVariants as words
use Rattle.lab_arguments.specs.declared.request.Request as read
use Rattle.lab_arguments.specs.declared.request.UsageCause.{UsageCause}
use Rattle.lab_arguments.specs.Requests as requests
use Rattle.monitor.specs.declared.setting.Setting.{Setting}

-- a script, by the name of its file, and how it is run; or the laboratory of a seed, with so many boards
pub data Request : Type 0 where
  Refused : UsageCause → Request
  Run : List ℕ → Setting → Request
  Gen : ℕ → ℕ → Request

-- the commands of a script are taken with each run of length 0
abbrev pub checking : Setting
checking = record { workers = 1; until = record { 0 = 0 }; dry = true }

-- what the words ask for, by how they are read; the number of workers changes nothing of a generated laboratory
abbrev pub by_reading : Result read.Request UsageCause → Request
by_reading (Ok (words.Run script workers until)) =
    Run script (record { workers = workers; until = until; dry = false })
by_reading (Ok (words.Check script)) = Run script checking
by_reading (Ok (words.Gen seed boards workers)) = Gen seed boards
by_reading (Err cause) = Refused cause

-- what the words ask for
abbrev pub request_of : List (List ℕ) → Request
request_of words = by_reading (requests.request_of words)
