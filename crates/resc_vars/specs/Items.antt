-- What stands in the lines of a body: commands, assignments, and macros with their bodies.
use Rattle.std.specs.Prelude.{ℕ, zero, suc, ◌+◌, Bool, true, false, if◌then◌else◌, List, [], ◌∷◌, take, drop}
use Rattle.std.specs.Prelude.{position, length}
use Rattle.std.specs.Prelude.{Option, Some, None}
use Rattle.resc_vars.specs.declared.form.Form.{Form}
use Rattle.resc_vars.specs.declared.form.Form.TheVariants as forms
use Rattle.resc_vars.specs.declared.item.Line.{Line}
use Rattle.resc_vars.specs.declared.item.Item.{Item}
use Rattle.resc_vars.specs.declared.item.Item.TheVariants.{Command, Malformed, Assign, Define, Unclosed}
use Rattle.resc_vars.specs.Form.{is_passed, is_fence, form_of}

abbrev pub is_fence_line : Line → Bool
is_fence_line line = is_fence line.text

-- how many lines stand between a `macro` line and its body: none where the line has `"""` at its end, and otherwise the
-- next line, which is `"""`; it is nothing where that is another line
abbrev pub begin : Bool → List Line → Option ℕ
begin true lines = Some 0
begin false [] = Some 0
begin false (first ∷ lines) = if is_fence first.text then Some 1 else None

-- a macro whose body begins after so many of the lines that follow, and how many lines are its own with its end
abbrev pub macro_item : Line → List ℕ → List Line → ℕ → Item × ℕ
macro_item line name lines from = by_end (position is_fence_line (drop from lines))
  where
    by_end : Option ℕ → Item × ℕ
    by_end None = (Unclosed line.number, length lines)
    by_end (Some k) = (Define line.number name (take k (drop from lines)), from + k + 1)

abbrev pub begun_item : Line → List ℕ → List Line → Option ℕ → Item × ℕ
begun_item line name lines None = (Malformed line, 0)
begun_item line name lines (Some from) = macro_item line name lines from

abbrev pub form_item : Line → List Line → Form → Item × ℕ
form_item line lines forms.Command = (Command line, 0)
form_item line lines forms.Malformed = (Malformed line, 0)
form_item line lines (forms.Assign assignment) = (Assign line.number assignment, 0)
form_item line lines (forms.Macro name opened) = begun_item line name lines (begin opened lines)

-- the item at a line, and how many of the lines that follow are its own
unfoldable pub item_at : Line → List Line → Item × ℕ
item_at line lines = form_item line lines (form_of line.text)

-- the items of lines, of which the first `own` belong to a macro
abbrev pub items : ℕ → List Line → List Item
items own [] = []
items zero (line ∷ lines) =
    if is_passed line.text then items 0 lines else (item_at line lines).0 ∷ items (item_at line lines).1 lines
items (suc own) (line ∷ lines) = items own lines
