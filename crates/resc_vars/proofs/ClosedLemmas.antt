-- Lines whose macros are closed have the same items with more lines behind.
use Rattle.std.proofs.Common.{◌≡◌, ◌∷◌, ◌++◌, ◌+◌, ◌-◌, ◌<◌, ◌≤◌, ◌∙◌, ℕ, zero, suc, nat_lt, if◌then◌else◌, cond, not}
use Rattle.std.proofs.Common.{Bool, true, false}
use Rattle.std.proofs.Common.{List, [], length, take, drop, position, Option, None, Some, refl, sym, ap, arith}
use Rattle.std.proofs.Common.{length-append}
use Rattle.std.proofs.Common.{length-drop}
use Rattle.std.specs.List.{list_all, position_or_len}
use Rattle.std.proofs.lemmas.Bool.{and_parts, ltb-true}
use Rattle.std.proofs.lemmas.Bool.Decides.{nat_tests}
use Rattle.std.proofs.lemmas.List.{take-append-le}
use Rattle.std.proofs.lemmas.Option.{cond_some}
use Rattle.resc_vars.specs.declared.form.Form.{Form}
use Rattle.resc_vars.specs.declared.form.Form.TheVariants as forms
use Rattle.resc_vars.specs.declared.item.Item.{Item}
use Rattle.resc_vars.specs.declared.item.Item.TheVariants.{Define, Unclosed}
use Rattle.resc_vars.specs.declared.item.Line.{Line}
use Rattle.resc_vars.specs.Form.{form_of, is_fence, is_passed}
use Rattle.resc_vars.specs.Items.{begin, begun_item, form_item, is_fence_line, item_at, items, macro_item}
use Rattle.resc_vars.specs.Behind.{is_closed}

step : (b : Bool) (m n len : ℕ) → (m < len → n ≡ m) → cond b (1 + m) 0 < suc len → cond b (1 + n) 0 ≡ cond b (1 + m) 0
step true m n len same within = ap (λ k. 1 + k) (same (omega arith))
step false m n len same within = refl

first_stays : (p : Line → Bool) (lines more : List Line) → position_or_len p lines < length lines →
    position_or_len p (lines ++ more) ≡ position_or_len p lines
first_stays p [] more within = absurd (omega arith)
first_stays p (line ∷ lines) more within =
    step (not (p line)) (position_or_len p lines) (position_or_len p (lines ++ more)) (length lines)
    (first_stays p lines more) within

position_stays : (p : Line → Bool) (lines more : List Line) (k : ℕ) → position p lines ≡ Some k →
    (position p (lines ++ more) ≡ Some k) × (k < length lines)
position_stays p lines more k is =
    let found = cond_some (nat_lt (position_or_len p lines) (length lines)) (position_or_len p lines) k is in
    let within : position_or_len p lines < length lines = ltb-true _ _ found.0 in
    let same = first_stays p lines more within in
    let still : nat_lt (position_or_len p lines) (length (lines ++ more)) ≡ true =
    grind (arith, nat_tests, length-append lines more) in
    (rw (same, still) (ap Some found.1), omega (arith, found.1))

macro_by :
    (line : Line) (name : List ℕ) (lines body : List Line) (from k : ℕ) → drop from lines ≡ body →
    position is_fence_line body ≡ Some k →
    macro_item line name lines from ≡ (Define line.number name (take k body), from + k + 1)
macro_by line name lines body from k is fence =
    rw (is, fence) (ap (λ (xs : List Line). (Define line.number name (take k xs), from + k + 1)) is)

macro_open :
    (line : Line) (name : List ℕ) (lines body : List Line) (from : ℕ) → drop from lines ≡ body →
    position is_fence_line body ≡ None → macro_item line name lines from ≡ (Unclosed line.number, length lines)
macro_open line name lines body from is fence = rw (is, fence) refl

-- an item stays with more lines behind, and its own lines are not among those
abbrev StaysIn : List Line → Item × ℕ → Item × ℕ → Type 0
StaysIn lines item longer = (longer ≡ item) × (item.1 ≤ length lines)

macro_closed :
    (line : Line) (name : List ℕ) (lines longest body more : List Line) (from : ℕ) (p : Option ℕ) →
    drop from lines ≡ body → drop from longest ≡ body ++ more → position is_fence_line body ≡ p →
    is_closed (macro_item line name lines from).0 ≡ true →
    StaysIn lines (macro_item line name lines from) (macro_item line name longest from)
macro_closed line name lines longest body more from None is also fence closed =
    let no : false ≡ true = rw (macro_open line name lines body from is fence) at closed in
    absurd (cc)
macro_closed line name lines longest body more from (Some k) is also fence closed =
    let one = macro_by line name lines body from k is fence in
    let (stays, within) = position_stays is_fence_line body more k fence in
    let two = macro_by line name longest (body ++ more) from k also stays in
    let left : length body ≡ length lines - from = ap length (sym is) ∙ length-drop from lines in
    rw (one, two, take-append-le k body more (omega arith)) (refl, omega arith)

begun_closed : (line : Line) (name : List ℕ) (b : Bool) (first : Line) (lines more : List Line) →
    is_closed (begun_item line name (first ∷ lines) (if b then Some 1 else None)).0 ≡ true →
    StaysIn (first ∷ lines) (begun_item line name (first ∷ lines) (if b then Some 1 else None))
    (begun_item line name (first ∷ (lines ++ more)) (if b then Some 1 else None))
begun_closed line name true first lines more closed =
    macro_closed line name (first ∷ lines) (first ∷ (lines ++ more)) lines more 1 _ refl refl refl closed
begun_closed line name false first lines more closed = (refl, omega arith)

named_closed : (line : Line) (name : List ℕ) (opened : Bool) (lines more : List Line) →
    is_closed (begun_item line name lines (begin opened lines)).0 ≡ true →
    StaysIn lines (begun_item line name lines (begin opened lines))
    (begun_item line name (lines ++ more) (begin opened (lines ++ more)))
named_closed line name true lines more closed =
    macro_closed line name lines (lines ++ more) lines more 0 _ refl refl refl closed
named_closed line name false [] more closed = absurd (cc)
named_closed line name false (first ∷ lines) more closed =
    begun_closed line name (is_fence first.text) first lines more closed

form_closed : (line : Line) (lines more : List Line) (form : Form) → is_closed (form_item line lines form).0 ≡ true →
    StaysIn lines (form_item line lines form) (form_item line (lines ++ more) form)
form_closed line lines more forms.Command closed = (refl, omega arith)
form_closed line lines more forms.Malformed closed = (refl, omega arith)
form_closed line lines more (forms.Assign assignment) closed = (refl, omega arith)
form_closed line lines more (forms.Macro name opened) closed = named_closed line name opened lines more closed

item_closed : (line : Line) (lines more : List Line) → is_closed (item_at line lines).0 ≡ true →
    StaysIn lines (item_at line lines) (item_at line (lines ++ more))
unfolding item_at
item_closed line lines more closed = form_closed line lines more (form_of line.text) closed

-- lines of which the first `own` belong to a macro
abbrev StayAll : ℕ → List Line → List Line → Type 0
StayAll own lines more =
    own ≤ length lines → list_all is_closed (items own lines) ≡ true →
    items own (lines ++ more) ≡ items own lines ++ items 0 more

line_closed : (b : Bool) (line : Line) (lines more : List Line) → ((own : ℕ) → StayAll own lines more) →
    list_all is_closed (if b then items 0 lines else (item_at line lines).0 ∷ items (item_at line lines).1 lines)
    ≡ true →
    (if b then items 0 (lines ++ more)
    else (item_at line (lines ++ more)).0 ∷ items (item_at line (lines ++ more)).1 (lines ++ more))
    ≡ (if b then items 0 lines else (item_at line lines).0 ∷ items (item_at line lines).1 lines) ++ items 0 more
line_closed true line lines more stay closed = stay 0 (omega arith) closed
line_closed false line lines more stay closed =
    let both = and_parts (is_closed (item_at line lines).0) (list_all is_closed (items (item_at line lines).1 lines))
    closed in
    let is = item_closed line lines more both.0 in
    rw is.0 (ap (λ xs. (item_at line lines).0 ∷ xs) (stay (item_at line lines).1 is.1 both.1))

pub items_closed : (own : ℕ) (lines more : List Line) → StayAll own lines more
items_closed zero [] more within closed = refl
items_closed (suc own) [] more within closed = absurd (omega arith)
items_closed zero (line ∷ lines) more within closed =
    line_closed (is_passed line.text) line lines more (λ own. items_closed own lines more) closed
items_closed (suc own) (line ∷ lines) more within closed = items_closed own lines more (omega arith) closed
