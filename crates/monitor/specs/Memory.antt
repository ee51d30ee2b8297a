-- Commands that read and write the memories of the selected board.
use Rattle.std.specs.Prelude.{ℕ, ◌%◌, ◌==◌, ◌&&◌, Bool, List, ◌++◌, length, codes, Result, Ok}
use Rattle.std.specs.Option.{ok_or}
use Rattle.lab_io.specs.Held.{Held}
use Rattle.log_text.specs.Number.{word}
use Rattle.page_ram.specs.LittleEndian.{little_endian}
use Rattle.board.specs.Changes.{holds_each, with_bytes, word_held}
use Rattle.board.specs.View.{View}
use Rattle.resc_vars.specs.declared.cause.ScriptCause.{ScriptCause}
use Rattle.resc_vars.specs.declared.cause.ScriptCause.TheVariants.{Address}
use Rattle.monitor.specs.Answer.{Did, Done, says, leaves, answer_at, loads}
use Rattle.monitor.specs.Refusal.{◌>>=◌, require}
use Rattle.monitor.specs.Selected.{Equipped, equipped, with_board}
use Rattle.monitor.specs.State.{State, LinePlace}

-- a word as it is printed
abbrev pub word_line : ℕ → List ℕ
word_line value = word value ++ codes "\n"

-- whether a word of memory stands at this address, which is a multiple of 4
abbrev pub is_word : View → ℕ → Bool
is_word v at = at % 4 == 0 && holds_each v.space at 4

-- sysbus ReadDoubleWord at
abbrev pub read_word : State → ℕ → Result Done ScriptCause
read_word s at = do
  on ← equipped s
  value ← ok_or (word_held on.view at) Address
  Ok (says s (word_line value))

-- sysbus WriteDoubleWord at value
abbrev pub write_word : State → ℕ → ℕ → Result Done ScriptCause
write_word s at value = do
  on ← equipped s
  is ← require (is_word on.view at) Address
  Ok (leaves (with_board s on (λ v. with_bytes v at (little_endian 4 value))))

-- bytes are written from an address on, if each has its place in a memory
abbrev pub write_bytes : State → Equipped → ℕ → List ℕ → Result Done ScriptCause
write_bytes s on at bytes = do
  fits ← require (holds_each on.view.space at (length bytes)) Address
  Ok (leaves (with_board s on (λ v. with_bytes v at bytes)))

-- sysbus LoadBinary @path at
abbrev pub load_binary : Held → State → LinePlace → List ℕ → ℕ → Did
load_binary held s place path at =
    loads held place path (equipped s) (λ on bytes. answer_at place (write_bytes s on at bytes))
