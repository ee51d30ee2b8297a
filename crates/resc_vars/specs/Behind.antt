-- A script, and the same script with more lines behind.
use Rattle.std.specs.Prelude.{◌≡◌, ◌⊎◌, ℕ, ◌+◌, Bool, true, false, List, [], ◌∷◌, ◌++◌, length, codes, Result, Ok, Err}
use Rattle.std.specs.List.{list_all}
use Rattle.std.specs.Str.Lines.{lines}
use Rattle.resc_vars.specs.declared.cause.ScriptCause.{ScriptCause}
use Rattle.resc_vars.specs.declared.item.Item.{Item}
use Rattle.resc_vars.specs.declared.item.Item.TheVariants.{Unclosed}
use Rattle.resc_vars.specs.Items.{items}
use Rattle.resc_vars.specs.Numbered.{numbered}
use Rattle.resc_vars.specs.Script.{Open, Outcome, Gives, Ends, Refuses, State, next_of, state_of}

-- a text is empty or ends with a line feed
abbrev pub EndsLine : List ℕ → Type 0
EndsLine text = (text ≡ []) ⊎ ((front : List ℕ) × (text ≡ front ++ codes "\n"))

-- an item is no macro whose body does not end
abbrev pub is_closed : Item → Bool
is_closed (Unclosed n) = false
is_closed _ = true

-- each macro of a text ends within it
abbrev pub ClosesMacros : List ℕ → Type 0
ClosesMacros text = list_all is_closed (items 0 (numbered 1 (lines text))) ≡ true

-- what stands in the lines behind a text
abbrev pub items_behind : List ℕ → List ℕ → List Item
items_behind text more = items 0 (numbered (1 + length (lines text)) (lines more))

-- a body with these items behind its own, where no body is around it
abbrev pub alone : List Item → Open → List Open → Open
alone more body [] = record body { items = body.items ++ more }
alone more body (next ∷ outer) = body

-- bodies of which the outermost has these items behind its own
abbrev pub longer : List Item → List Open → List Open
longer more [] = []
longer more (body ∷ outer) = alone more body outer ∷ longer more outer

-- a script with these items behind its own
abbrev pub with_behind : List Item → State → State
with_behind more s = record s { current = alone more s.current s.outer; outer = longer more s.outer }

-- the file of the outermost body
abbrev pub outermost : List ℕ → List Open → List ℕ
outermost file [] = file
outermost file (next ∷ outer) = outermost next.file outer

abbrev pub main_file : State → List ℕ
main_file s = outermost s.current.file s.outer

-- what comes next with these items behind those of a script: where the script ends, what comes next of them
abbrev pub next_behind : List ℕ → List Item → Outcome → Outcome
next_behind file more (Gives of n text flow) = Gives of n text (with_behind more flow)
next_behind file more (Ends kept) = next_of (state_of file more [] kept)
next_behind file more (Refuses of n cause kept) = Refuses of n cause kept

-- a body that is opened, or the refusal, with these items behind those of the script
abbrev pub opened_behind : List Item → Result State ScriptCause → Result State ScriptCause
opened_behind more (Ok s) = Ok (with_behind more s)
opened_behind more (Err cause) = Err cause

-- this holds of the script after a line
abbrev pub IfGives : Outcome → (State → Type 0) → Type 0
IfGives (Gives file n text flow) P = P flow
IfGives (Ends kept) P = Unit {0}
IfGives (Refuses file n cause kept) P = Unit {0}
