-- How the file of a script was opened.
use Rattle.std.specs.Prelude.{◌≡◌, ℕ, ◌≤◌, ◌^◌, List, [], ◌∷◌, length, string_bytes}
use Rattle.lab_io.specs.Known.{grown}
use Rattle.lab_io.specs.Asked.{AskedNames, AsksSome}
use Rattle.monitor.specs.Answer.{fault_at}
use Rattle.monitor.specs.State.{LinePlace}
use Rattle.resc_vars.specs.declared.cause.ScriptCause.{ScriptCause}
use Rattle.lab_top.specs.declared.script.Opened.{Opened}
use Rattle.lab_top.specs.declared.script.Opened.TheVariants.{Text, Refused, Unread, Memory}
use Rattle.lab_top.specs.Content as content

-- a file is refused at this place for this cause, or memory ran out
abbrev pub IsRefused : LinePlace → ScriptCause → Opened → Type 0
IsRefused place cause (Text text) = ⊥
IsRefused place cause (Refused fault) = fault ≡ fault_at place cause
IsRefused place cause Unread = ⊥
IsRefused place cause Memory = Unit {0}

-- a file of this name was opened as what it is, or its read was cut short
abbrev pub IsOpened : content.Content → List ℕ → Opened → AskedNames → AskedNames → Type 0
IsOpened is name (Text text) log log' = (is ≡ content.Readable (string_bytes text)) × (log' ≡ grown log (name ∷ []))
IsOpened is name (Refused fault) log log' = (is ≡ content.Faulty fault) × (log' ≡ grown log (name ∷ []))
IsOpened is name Unread log log' = log' ≡ grown log (name ∷ [])
IsOpened is name Memory log log' = AsksSome (name ∷ []) log log'

-- a text is no longer than a file may be
abbrev pub IsShort : Opened → Type 0
IsShort (Text text) = length (string_bytes text) ≤ 2 ^ 24
IsShort (Refused fault) = Unit {0}
IsShort Unread = Unit {0}
IsShort Memory = Unit {0}
