-- What reading the words has given.
use Rattle.std.specs.Prelude.{◌≡◌, Result, Ok, Err}
use Rattle.lab_arguments.specs.declared.request.WordsFault.{WordsFault}
use Rattle.lab_arguments.specs.declared.request.WordsFault.TheVariants.{Usage, Memory}
use Rattle.lab_arguments.specs.Requests.{IsFrom}
use Rattle.lab_top.specs.declared.words.Asked.{Asked}
use Rattle.lab_top.specs.declared.words.Asked.TheVariants.{Script, Generated}
use Rattle.lab_top.specs.Request.{Request, Refused, Run, Gen}

-- the words were read as they ask, or memory ran out
abbrev pub IsAsked : Request → Result Asked WordsFault → Type 0
IsAsked asked (Ok (Script run)) = asked ≡ Run run.script run.setting
IsAsked asked (Ok (Generated seed boards workers)) = asked ≡ Gen seed boards
IsAsked asked (Err (Usage cause)) = asked ≡ Refused cause
IsAsked asked (Err Memory) = Unit {0}

-- 1 to 8 workers, and 1 to 16 boards
abbrev pub IsInRange : Asked → Type 0
IsInRange (Script run) = IsFrom 1 8 run.setting.workers
IsInRange (Generated seed boards workers) = IsFrom 1 16 boards × IsFrom 1 8 workers
