-- The open bodies of a script, and its next line.
use Rattle.std.specs.Prelude.{◌≡◌, ℕ, ◌+◌, ◌<◌, ◌≤◌, nat_eq, nat_lt, Bool, true, false, if◌then◌else◌, List, [], ◌∷◌}
use Rattle.std.specs.Prelude.{Option, Some, None}
use Rattle.std.specs.Option.{option_map}
use Rattle.std.specs.Cmp.Lexicographic.{pointwise}
use Rattle.indexmap.specs.IndexMap.{insert_entry}
use Rattle.resc_vars.specs.declared.cause.ScriptCause.TheVariants as causes
use Rattle.resc_vars.specs.declared.cause.ScriptCause.{ScriptCause}
use Rattle.resc_vars.specs.declared.form.Assignment.{Assignment}
use Rattle.resc_vars.specs.declared.item.Item.{Item}
use Rattle.resc_vars.specs.declared.item.Item.TheVariants.{Command, Malformed, Assign, Define, Unclosed}
use Rattle.resc_vars.specs.declared.item.Line.{Line}
use Rattle.resc_vars.specs.declared.item.SourceLines.{SourceLines}
use Rattle.resc_vars.specs.declared.answer.Next.{Next}
use Rattle.resc_vars.specs.declared.answer.Next.TheVariants as next
use Rattle.resc_vars.specs.Variables.{Variables, stands_for, command_text, with_value}

-- an open body: its file, and what stands in its lines that were not taken yet
pub record Open : Type 0 where
  pub file : List ℕ
  pub items : List Item

-- the macros by name, each with its file and the lines of its body
abbrev pub Macros : Type 0
Macros = List (List ℕ × SourceLines)

-- what commands are taken with: the variables, the macros, and how many commands were taken
pub record Kept : Type 0 where
  pub variables : Variables
  pub macros : Macros
  pub taken : ℕ

-- whether the script has ended, the innermost body, and the bodies around it, the next one first
pub record State : Type 0 where
  pub ended : Bool
  pub current : Open
  pub outer : List Open
  pub kept : Kept

-- how many commands a script may have
abbrev pub command_limit : ℕ
command_limit = 100000

-- what comes next in a script: a line with a command, and the state after it; the end; or a line that is refused. An
-- end and a refused line come with what was kept until there.
pub data Outcome : Type 0 where
  Gives : List ℕ → ℕ → List ℕ → State → Outcome
  Ends : Kept → Outcome
  Refuses : List ℕ → ℕ → ScriptCause → Kept → Outcome

-- one more command is taken
abbrev pub counted : Kept → Kept
counted kept = record kept { taken = kept.taken + 1 }

-- a line that is handed on, where it has a text
abbrev pub given : List ℕ → ℕ → Kept → Option (List ℕ) → State → Outcome
given file n kept None after = Refuses file n causes.Variable kept
given file n kept (Some text) after = Gives file n text after

-- after an assignment, whose value is replaced first, whether it is used or not
abbrev pub assigned : Kept → Assignment → Option Kept
assigned kept a =
    option_map
    (λ value. record (counted kept) { variables = with_value kept.variables a.name a.only_if_unset value })
    (stands_for kept.variables a.value)

-- after the definition of a macro
abbrev pub defined : Kept → List ℕ → List ℕ → List Line → Kept
defined kept file name lines =
    record (counted kept) {
      macros = insert_entry (pointwise nat_eq) kept.macros name (record { file = file; lines = lines });
    }

-- on from an assignment, unless its value is a variable that is unset
abbrev pub onward : List ℕ → ℕ → Kept → Option Kept → (Kept → Outcome) → Outcome
onward file n kept None rest = Refuses file n causes.Variable kept
onward file n kept (Some after) rest = rest after

-- one more command, unless there were too many before
abbrev pub within_limit : List ℕ → ℕ → Kept → Outcome → Outcome
within_limit file n kept outcome =
    if nat_lt kept.taken command_limit then outcome else Refuses file n causes.Commands kept

abbrev pub state_of : List ℕ → List Item → List Open → Kept → State
state_of file items outer kept =
    record { ended = false; current = record { file = file; items = items }; outer = outer; kept = kept }

-- the next line of a body, or of those around it where it has none
abbrev pub in_body : List ℕ → List Item → List Open → Kept → (Kept → Outcome) → Outcome
in_body file [] outer kept around = around kept
in_body file (Unclosed n ∷ items) outer kept around = Refuses file n causes.Unclosed kept
in_body file (Command line ∷ items) outer kept around =
    within_limit file line.number kept
    (given file line.number kept (command_text kept.variables line.text) (state_of file items outer (counted kept)))
in_body file (Malformed line ∷ items) outer kept around =
    within_limit file line.number kept
    (Gives file line.number line.text (state_of file items outer (counted kept)))
in_body file (Assign n assignment ∷ items) outer kept around =
    within_limit file n kept
    (onward file n kept (assigned kept assignment) (λ after. in_body file items outer after around))
in_body file (Define n name lines ∷ items) outer kept around =
    within_limit file n kept (in_body file items outer (defined kept file name lines) around)

abbrev pub in_bodies : List Open → Kept → Outcome
in_bodies [] kept = Ends kept
in_bodies (body ∷ outer) kept = in_body body.file body.items outer kept (in_bodies outer)

-- the next line of a script that has not ended
abbrev pub next_of : State → Outcome
next_of s = in_bodies (s.current ∷ s.outer) s.kept

-- an answer is that, with that state after it or that kept, unless memory ran out
abbrev pub Says : Next → State → Outcome → Type 0
Says (next.Line file n text) after said = said ≡ Gives file n text after
Says next.End after said = said ≡ Ends after.kept
Says (next.Fault file n cause) after said = said ≡ Refuses file n cause after.kept
Says next.Memory after said = Unit {0}

abbrev pub is_line : Next → Bool
is_line (next.Line file n text) = true
is_line next.End = false
is_line (next.Fault file n cause) = false
is_line next.Memory = false

-- a line takes a command or more, assignments and macros on the way to it among them, and 100,000 are taken at most
abbrev pub TakesCommands : Next → State → State → Type 0
TakesCommands (next.Line file n text) before after =
    (before.kept.taken < after.kept.taken) × (after.kept.taken ≤ command_limit)
TakesCommands next.End before after = Unit {0}
TakesCommands (next.Fault file n cause) before after = Unit {0}
TakesCommands next.Memory before after = Unit {0}
