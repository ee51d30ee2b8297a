-- What a file is to one who reads it whole, of at most 16 MiB.
use Rattle.std.specs.Prelude.{◌≡◌, ℕ, ◌+◌, ◌==◌, ◌<◌, nat_lt, if◌then◌else◌, List, [], ◌∷◌, length, take, count_by}
use Rattle.std.specs.Prelude.{Option, None, Some, Result, Ok, Err, Vec, String, IsSomeAnd, string_bytes}
use Rattle.std.specs.Global.{Global}
use Rattle.std.specs.Str.{is_utf8, byte}
use Rattle.std.specs.Str.Lossy.{utf8_valid_len}
use Rattle.lab_io.specs.Known.{grown}
use Rattle.lab_io.specs.Asked.{AskedNames, AsksSome}
use Rattle.lab_io.specs.declared.whole.ReadFault.{ReadFault}
use Rattle.lab_io.specs.declared.whole.ReadFault.TheVariants as read_fault
use Rattle.lab_io.specs.declared.whole.TextFault.{TextFault}
use Rattle.lab_io.specs.declared.whole.TextFault.TheVariants.{Unread, TooLarge, NotText, Memory}

-- the line of the first byte after the longest prefix that is UTF-8: one more than the line feeds before it
unfoldable pub bad_line : List ℕ → ℕ
bad_line bytes = count_by (λ b. b == byte "\n") (take (utf8_valid_len bytes) bytes) + 1

-- a file that is missing, one that is too large, one that is no text from a line of it on, or a text
pub data FileText : Type 0 where
  Missing : FileText
  Large : FileText
  Broken : ℕ → FileText
  Readable : List ℕ → FileText

-- what these bytes are
abbrev pub bytes_text : List ℕ → FileText
bytes_text bytes = if is_utf8 bytes then Readable bytes else Broken (bad_line bytes)

-- what a name holds: first whether it holds anything, then its size, then its text
abbrev pub file_text : Option (List ℕ) → FileText
file_text None = Missing
file_text (Some bytes) = if nat_lt 16777216 (length bytes) then Large else bytes_text bytes

-- where the bytes are not read, the text is not
abbrev pub text_fault : ReadFault → TextFault
text_fault read_fault.Unread = Unread
text_fault read_fault.TooLarge = TooLarge
text_fault read_fault.Memory = Memory

-- The file of this name was read and these are its bytes, or it is too large, or the read was cut short.
abbrev pub IsFileRead : Option (List ℕ) → List ℕ → Result (Vec ℕ Global) ReadFault → AskedNames → AskedNames → Type 0
IsFileRead there name (Ok bytes) log log' = (there ≡ Some bytes.items) × (log' ≡ grown log (name ∷ []))
IsFileRead there name (Err read_fault.Unread) log log' = log' ≡ grown log (name ∷ [])
IsFileRead there name (Err read_fault.TooLarge) log log' =
    IsSomeAnd there (λ bytes. 16777216 < length bytes) × (log' ≡ grown log (name ∷ []))
IsFileRead there name (Err read_fault.Memory) log log' = AsksSome (name ∷ []) log log'

-- The file of this name was read and this is its text, or it has none, or the read was cut short.
abbrev pub IsTextRead : Option (List ℕ) → List ℕ → Result (String Global) TextFault → AskedNames → AskedNames → Type 0
IsTextRead there name (Ok text) log log' =
    (file_text there ≡ Readable (string_bytes text)) × (log' ≡ grown log (name ∷ []))
IsTextRead there name (Err Unread) log log' = log' ≡ grown log (name ∷ [])
IsTextRead there name (Err TooLarge) log log' = (file_text there ≡ Large) × (log' ≡ grown log (name ∷ []))
IsTextRead there name (Err (NotText line)) log log' =
    (file_text there ≡ Broken line) × (log' ≡ grown log (name ∷ []))
IsTextRead there name (Err Memory) log log' = AsksSome (name ∷ []) log log'
