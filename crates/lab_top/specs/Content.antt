-- What the file of a script is.
use Rattle.std.specs.Prelude.{ℕ, List, Option}
use Rattle.lab_io.specs.Whole.{FileText, file_text}
use Rattle.lab_io.specs.Whole as text
use Rattle.resc_vars.specs.declared.cause.ScriptCause.TheVariants.{Size, Utf8}
use Rattle.monitor.specs.declared.fault.ScriptFault.{ScriptFault}
use Rattle.monitor.specs.Answer.{fault_at}
use Rattle.monitor.specs.State.{LinePlace}

-- a file that is missing, one that is refused at a place of it, or one with a text
pub data Content : Type 0 where
  Missing : Content
  Faulty : ScriptFault → Content
  Readable : List ℕ → Content

-- a file as a whole, where a fault of it stands
abbrev pub whole : List ℕ → LinePlace
whole file = record { file = file; number = 0 }

-- what a file of this name is, by its text
abbrev pub content_by : List ℕ → FileText → Content
content_by file text.Missing = Missing
content_by file text.Large = Faulty (fault_at (whole file) Size)
content_by file (text.Broken line) = Faulty (fault_at (record { file = file; number = line }) Utf8)
content_by file (text.Readable bytes) = Readable bytes

-- what a file of this name is, which holds this
abbrev pub content_of : List ℕ → Option (List ℕ) → Content
content_of file there = content_by file (file_text there)
