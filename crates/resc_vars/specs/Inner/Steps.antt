-- What one step of a script's flow leaves.
use Rattle.std.specs.Prelude.{◌≡◌, Bool, true, false, List, [], ◌∷◌, Option, Some, None}
use Rattle.resc_vars.specs.declared.item.Item.{Item}
use Rattle.resc_vars.specs.declared.answer.Next.{Next}
use Rattle.std.specs.Option.{option_map}
use Rattle.resc_vars.specs.Variables.{Variables, stands_for, with_value}
use Rattle.resc_vars.specs.declared.form.Assignment.{Assignment}
use Rattle.resc_vars.specs.Script.{State, Outcome, Says, assigned, counted, in_body, in_bodies, next_of}

-- what the first item was, if there was one
abbrev pub Takes : List Item → Option Item → List Item → Type 0
Takes before None after = (before ≡ []) × (after ≡ [])
Takes before (Some item) after = before ≡ item ∷ after

-- the innermost body closed, if there is one around it
abbrev pub Closes : State → Bool → State → Type 0
Closes before true after =
    (before.outer ≡ after.current ∷ after.outer)
    × (after ≡ record before { current = after.current; outer = after.outer })
Closes before false after = (before.outer ≡ []) × (after ≡ before)

-- the bodies stay, and the script goes on
pub record IsSameBodies (before after : State) : Type 0 where
  pub ended : after.ended ≡ before.ended
  pub current : after.current ≡ before.current
  pub outer : after.outer ≡ before.outer

-- the next line of a script whose innermost body goes on with this item
abbrev pub next_with : Item → State → Outcome
next_with item s = in_body s.current.file (item ∷ s.current.items) s.outer s.kept (in_bodies s.outer)

-- what an item does: it gives the next answer, or leaves the state after which that is sought
abbrev pub Acts : Option Next → State → Outcome → Type 0
Acts (Some answer) after said = Says answer after said
Acts None after said = next_of after ≡ said

-- a state with one command more
abbrev pub with_counted : State → State
with_counted s = record s { kept = counted s.kept }

-- the variables after an assignment, made or refused
abbrev pub SetsVariable : Assignment → Variables → Bool → Variables → Type 0
SetsVariable a before true after =
    option_map (λ value. with_value before a.name a.only_if_unset value) (stands_for before a.value) ≡ Some after
SetsVariable a before false after = (stands_for before a.value ≡ None) × (after ≡ before)

-- an assignment, made or refused
abbrev pub Sets : Assignment → State → Bool → State → Type 0
Sets a before true after = assigned before.kept a ≡ Some after.kept
Sets a before false after = (assigned before.kept a ≡ None) × (after.kept ≡ before.kept)
