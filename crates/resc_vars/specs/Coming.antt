-- What is to come in a script, whatever files and macros it stands in.
use Rattle.std.specs.Prelude.{◌≡◌, ◌⊎◌, ℕ, ◌<◌, ◌≤◌, List, [], ◌∷◌, ◌++◌, map, Result, Ok, Err}
use Rattle.std.specs.Str.Lines.{lines}
use Rattle.resc_vars.specs.declared.cause.ScriptCause.{ScriptCause}
use Rattle.resc_vars.specs.declared.cause.ScriptCause.TheVariants.{Commands, Depth}
use Rattle.resc_vars.specs.declared.form.Assignment.{Assignment}
use Rattle.resc_vars.specs.declared.item.Item.{Item}
use Rattle.resc_vars.specs.declared.item.Item.TheVariants as item
use Rattle.resc_vars.specs.declared.item.Line.{Line}
use Rattle.resc_vars.specs.Items.{items}
use Rattle.resc_vars.specs.Numbered.{numbered}
use Rattle.resc_vars.specs.Script.{Macros, Open, Outcome, Gives, Ends, Refuses, State, command_limit}

-- what stands in a line, or in those of a macro, wherever they stand
pub data Thing : Type 0 where
  Command : List ℕ → Thing
  Malformed : List ℕ → Thing
  Assign : Assignment → Thing
  Define : List ℕ → List (List ℕ) → Thing
  Unclosed : Thing

abbrev pub texts : List Line → List (List ℕ)
texts lines = map (λ line. line.text) lines

abbrev pub thing : Item → Thing
thing (item.Command line) = Command line.text
thing (item.Malformed line) = Malformed line.text
thing (item.Assign n assignment) = Assign assignment
thing (item.Define n name lines) = Define name (texts lines)
thing (item.Unclosed n) = Unclosed

-- what stands in the lines of a text
abbrev pub things_in : List ℕ → List Thing
things_in text = map thing (items 0 (numbered 1 (lines text)))

-- what is to come in bodies, the innermost first
abbrev pub things : List Open → List Thing
things [] = []
things (body ∷ outer) = map thing body.items ++ things outer

-- what is to come in a script
abbrev pub coming : State → List Thing
coming flow = things (flow.current ∷ flow.outer)

-- the macros by name, each with the texts of its lines
abbrev pub bodies : Macros → List (List ℕ × List (List ℕ))
bodies macros = map (λ macro. (macro.0, texts macro.1.lines)) macros

-- In two scripts the same is to come, with the same variables and the same macros. The files and the lines where all
-- that stands may differ, the bodies in which it does, and the commands that were taken before.
pub record MeansSame (flow other : State) : Type 0 where
  pub to_come : coming other ≡ coming flow
  pub variables : other.kept.variables ≡ flow.kept.variables
  pub macros : bodies other.kept.macros ≡ bodies flow.kept.macros

-- what comes next is refused because too many commands were taken
abbrev pub IsFull : Outcome → Type 0
IsFull (Refuses file n cause kept) = cause ≡ Commands
IsFull _ = ⊥

-- the same comes next, at its own place in each, and then two scripts mean the same
abbrev pub IsSameNext : Outcome → Outcome → Type 0
IsSameNext (Gives file n text flow) (Gives file' n' text' flow') = (text' ≡ text) × MeansSame flow flow'
IsSameNext (Ends kept) (Ends kept') = Unit {0}
IsSameNext (Refuses file n cause kept) (Refuses file' n' cause' kept') = cause' ≡ cause
IsSameNext _ _ = ⊥

abbrev pub AreNextAlike : Outcome → Outcome → Type 0
AreNextAlike one two = IsFull one ⊎ IsFull two ⊎ IsSameNext one two

-- a body is not opened because too many are open
abbrev pub IsDeep : Result State ScriptCause → Type 0
IsDeep (Ok flow) = ⊥
IsDeep (Err cause) = cause ≡ Depth

-- two scripts mean the same in which a body is opened, or both are refused for one cause
abbrev pub IsSameOpened : Result State ScriptCause → Result State ScriptCause → Type 0
IsSameOpened (Ok flow) (Ok other) = MeansSame flow other
IsSameOpened (Err cause) (Err other) = other ≡ cause
IsSameOpened _ _ = ⊥

abbrev pub AreOpenedAlike : Result State ScriptCause → Result State ScriptCause → Type 0
AreOpenedAlike one two = IsDeep one ⊎ IsDeep two ⊎ IsSameOpened one two

-- a line takes a command or more, and 100,000 are taken at most
abbrev pub TakesMore : ℕ → Outcome → Type 0
TakesMore before (Gives file n text flow) = (before < flow.kept.taken) × (flow.kept.taken ≤ command_limit)
TakesMore before (Ends kept) = Unit {0}
TakesMore before (Refuses file n cause kept) = Unit {0}
