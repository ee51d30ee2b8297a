-- What a file is to a loading.
use Rattle.std.specs.Prelude.{ℕ, List, Option, Result, Ok, Err}
use Rattle.lab_io.specs.Whole.{FileText, file_text}
use Rattle.lab_io.specs.Whole as text
use Rattle.repl_read.specs.declared.entry.Entry.{Entry}
use Rattle.repl_read.specs.Platform.{LineFault, platform}
use Rattle.repl_files.specs.declared.fault.FileCause.{FileCause}
use Rattle.repl_files.specs.declared.fault.FileCause.TheVariants.{Utf8, Platform}

-- a faulty file has its first fault at this line, and a readable one has these entries
pub data Content : Type 0 where
  Missing : Content
  Large : Content
  Faulty : ℕ → FileCause → Content
  Readable : List Entry → Content

abbrev pub text_content : Result (List Entry) LineFault → Content
text_content (Ok entries) = Readable entries
text_content (Err fault) = Faulty fault.0 (Platform fault.1)

-- what a file is, by its text
abbrev pub content_by : FileText → Content
content_by text.Missing = Missing
content_by text.Large = Large
content_by (text.Broken line) = Faulty line Utf8
content_by (text.Readable bytes) = text_content (platform bytes)

-- what a name holds: first whether it holds anything, then its size, then UTF-8, then its text
abbrev pub content_of : Option (List ℕ) → Content
content_of there = content_by (file_text there)
