-- Lines that stand in a text, seen from a place in it.
use Rattle.std.specs.Prelude.{◌≡◌, ℕ, ◌+◌, ◌≤◌, List, ◌∷◌, [], ◌++◌, take, drop, length, position, Option, Some, None}
use Rattle.resc_vars.specs.declared.item.Item.{Item}
use Rattle.resc_vars.specs.declared.item.Item.TheVariants.{Define, Unclosed}
use Rattle.resc_vars.specs.declared.item.Line.{Line}
use Rattle.resc_vars.specs.declared.lines.Rest.{Rest}
use Rattle.resc_vars.specs.Items.{items, item_at, is_fence_line}
use Rattle.resc_vars.specs.Numbered.{numbers_fit, shown}

abbrev pub lines_of : Rest → List Line
lines_of rest = shown rest.most rest.number rest.text.now

-- a text ends with another one
abbrev pub EndsWith : List ℕ → List ℕ → Type 0
EndsWith text end = (front : List ℕ) × (text ≡ front ++ end)

-- what is left of lines after the first ones
abbrev pub Follows : Rest → Rest → Type 0
Follows rest later = EndsWith rest.text.now later.text.now × numbers_fit later.number later.text.now

-- what is left of lines after so many
abbrev pub Skips : ℕ → Rest → Rest → Type 0
Skips n rest later = (n ≤ length (lines_of rest)) × (lines_of later ≡ drop n (lines_of rest)) × Follows rest later

-- where the body of a macro begins in the lines after it, if it begins there
abbrev pub Begins : Option ℕ → Rest → Option Rest → Type 0
Begins None rest None = Unit {0}
Begins None rest (Some body) = ⊥
Begins (Some from) rest None = ⊥
Begins (Some from) rest (Some body) = Skips from rest body

-- the macro whose body begins there, and what is left after it; one that does not end leaves nothing
abbrev pub IsMacro : ℕ → List ℕ → Rest → Item × Rest → Type 0
IsMacro n name body found = by_end (position is_fence_line (lines_of body))
  where
    by_end : Option ℕ → Type 0
    by_end None = (found.0 ≡ Unclosed n) × (lines_of found.1 ≡ []) × Follows body found.1
    by_end (Some k) = (found.0 ≡ Define n name (take k (lines_of body))) × Skips (k + 1) body found.1

-- the item at a line, and what is left after its own lines
abbrev pub IsItem : Line → Rest → Item × Rest → Type 0
IsItem line rest found = (own : ℕ) × (item_at line (lines_of rest) ≡ (found.0, own)) × Skips own rest found.1

-- the first item of lines, and what is left after it
abbrev pub First : Rest → Option (Item × Rest) → Type 0
First rest None = items 0 (lines_of rest) ≡ []
First rest (Some found) = (items 0 (lines_of rest) ≡ found.0 ∷ items 0 (lines_of found.1)) × Follows rest found.1
