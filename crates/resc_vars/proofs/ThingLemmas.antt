-- Lines of the same texts have the same things in them.
use Rattle.std.proofs.Common.{◌≡◌, ◌∷◌, ℕ, zero, suc, if◌then◌else◌, Bool, true, false}
use Rattle.std.proofs.Common.{List, [], length, map, take, drop, position, Option, None, Some, refl, sym, ap, subst}
use Rattle.std.specs.List.{position_or_len}
use Rattle.resc_vars.specs.declared.form.Form.{Form}
use Rattle.resc_vars.specs.declared.form.Form.TheVariants as forms
use Rattle.resc_vars.specs.declared.item.Item.{Item}
use Rattle.resc_vars.specs.declared.item.Line.{Line}
use Rattle.resc_vars.specs.Form.{form_of, is_passed}
use Rattle.resc_vars.specs.Items.{begin, begun_item, form_item, is_fence_line, item_at, items, macro_item}
use Rattle.resc_vars.specs.Coming.{Define, texts, thing}

-- line by line
abbrev pub Alike : List Line → List Line → Type 0
Alike [] [] = Unit {0}
Alike (line ∷ lines) (other ∷ others) = (other.text ≡ line.text) × Alike lines others
Alike _ _ = ⊥

pub alike_texts : (lines others : List Line) → texts others ≡ texts lines → Alike lines others
alike_texts [] [] same = tt
alike_texts (line ∷ lines) (other ∷ others) same = (cc, alike_texts lines others (cc))
alike_texts [] (other ∷ others) same = absurd (cc)
alike_texts (line ∷ lines) [] same = absurd (cc)

texts_alike : (lines others : List Line) → Alike lines others → texts others ≡ texts lines
texts_alike [] [] alike = refl
texts_alike (line ∷ lines) (other ∷ others) alike =
    rw alike.0 (ap (λ all. line.text ∷ all) (texts_alike lines others alike.1))
texts_alike [] (other ∷ others) alike = absurd alike
texts_alike (line ∷ lines) [] alike = absurd alike

alike_drop : (n : ℕ) (lines others : List Line) → Alike lines others → Alike (drop n lines) (drop n others)
alike_drop zero lines others alike = alike
alike_drop (suc n) [] [] alike = tt
alike_drop (suc n) (line ∷ lines) (other ∷ others) alike = alike_drop n lines others alike.1
alike_drop (suc n) [] (other ∷ others) alike = absurd alike
alike_drop (suc n) (line ∷ lines) [] alike = absurd alike

alike_take : (n : ℕ) (lines others : List Line) → Alike lines others → Alike (take n lines) (take n others)
alike_take zero lines others alike = tt
alike_take (suc n) [] [] alike = tt
alike_take (suc n) (line ∷ lines) (other ∷ others) alike = (alike.0, alike_take n lines others alike.1)
alike_take (suc n) [] (other ∷ others) alike = absurd alike
alike_take (suc n) (line ∷ lines) [] alike = absurd alike

alike_length : (lines others : List Line) → Alike lines others → length others ≡ length lines
alike_length [] [] alike = refl
alike_length (line ∷ lines) (other ∷ others) alike = ap suc (alike_length lines others alike.1)
alike_length [] (other ∷ others) alike = absurd alike
alike_length (line ∷ lines) [] alike = absurd alike

alike_first : (lines others : List Line) → Alike lines others →
    position_or_len is_fence_line others ≡ position_or_len is_fence_line lines
alike_first [] [] alike = refl
alike_first (line ∷ lines) (other ∷ others) alike = rw (alike.0, alike_first lines others alike.1) refl
alike_first [] (other ∷ others) alike = absurd alike
alike_first (line ∷ lines) [] alike = absurd alike

alike_position : (lines others : List Line) → Alike lines others →
    position is_fence_line others ≡ position is_fence_line lines
alike_position lines others alike = rw (alike_first lines others alike, alike_length lines others alike) refl

-- two items are of the same thing, and have as many lines of their own
abbrev AreOne : Item × ℕ → Item × ℕ → Type 0
AreOne item other = (thing other.0 ≡ thing item.0) × (other.1 ≡ item.1)

macro_by : (line other : Line) (name : List ℕ) (lines others : List Line) (from : ℕ) (p : Option ℕ) →
    Alike lines others → position is_fence_line (drop from lines) ≡ p →
    position is_fence_line (drop from others) ≡ p →
    AreOne (macro_item line name lines from) (macro_item other name others from)
macro_by line other name lines others from None alike one two = rw (one, two) (refl, alike_length lines others alike)
macro_by line other name lines others from (Some k) alike one two =
    rw (one, two) (
      ap (Define name)
          (texts_alike (take k (drop from lines)) (take k (drop from others))
          (alike_take k (drop from lines) (drop from others) (alike_drop from lines others alike))),
      refl,
    )

macro_one : (line other : Line) (name : List ℕ) (lines others : List Line) (from : ℕ) → Alike lines others →
    AreOne (macro_item line name lines from) (macro_item other name others from)
macro_one line other name lines others from alike =
    macro_by line other name lines others from (position is_fence_line (drop from lines)) alike refl
    (alike_position (drop from lines) (drop from others) (alike_drop from lines others alike))

begin_one : (opened : Bool) (lines others : List Line) → Alike lines others → begin opened others ≡ begin opened lines
begin_one true lines others alike = refl
begin_one false [] [] alike = refl
begin_one false (line ∷ lines) (other ∷ others) alike = rw alike.0 refl
begin_one false [] (other ∷ others) alike = absurd alike
begin_one false (line ∷ lines) [] alike = absurd alike

begun_one : (line other : Line) (name : List ℕ) (lines others : List Line) (from : Option ℕ) →
    other.text ≡ line.text → Alike lines others →
    AreOne (begun_item line name lines from) (begun_item other name others from)
begun_one line other name lines others None same alike = rw same (refl, refl)
begun_one line other name lines others (Some from) same alike = macro_one line other name lines others from alike

form_one : (line other : Line) (lines others : List Line) (form : Form) → other.text ≡ line.text →
    Alike lines others → AreOne (form_item line lines form) (form_item other others form)
form_one line other lines others forms.Command same alike = rw same (refl, refl)
form_one line other lines others forms.Malformed same alike = rw same (refl, refl)
form_one line other lines others (forms.Assign assignment) same alike = (refl, refl)
form_one line other lines others (forms.Macro name opened) same alike =
    rw (begin_one opened lines others alike)
    (begun_one line other name lines others (begin opened lines) same alike)

item_one : (line other : Line) (lines others : List Line) → other.text ≡ line.text → Alike lines others →
    AreOne (item_at line lines) (item_at other others)
unfolding item_at
item_one line other lines others same alike =
    subst (λ text. AreOne (item_at line lines) (form_item other others (form_of text))) (sym same)
    (form_one line other lines others (form_of line.text) same alike)

-- lines of which the first `own` belong to a macro
abbrev AreOneAll : ℕ → List Line → List Line → Type 0
AreOneAll own lines others = map thing (items own others) ≡ map thing (items own lines)

line_one : (b : Bool) (line other : Line) (lines others : List Line) → other.text ≡ line.text → Alike lines others →
    ((own : ℕ) → AreOneAll own lines others) →
    map thing (if b then items 0 others else (item_at other others).0 ∷ items (item_at other others).1 others)
    ≡ map thing (if b then items 0 lines else (item_at line lines).0 ∷ items (item_at line lines).1 lines)
line_one true line other lines others same alike are = are 0
line_one false line other lines others same alike are =
    let one = item_one line other lines others same alike in
    rw (one.0, one.1) (ap (λ all. thing (item_at line lines).0 ∷ all) (are (item_at line lines).1))

pub items_one : (own : ℕ) (lines others : List Line) → Alike lines others → AreOneAll own lines others
items_one own [] [] alike = refl
items_one zero (line ∷ lines) (other ∷ others) alike =
    subst
    (λ text. map thing
    (if is_passed text then items 0 others else (item_at other others).0 ∷ items (item_at other others).1 others)
    ≡ map thing (items 0 (line ∷ lines)))
    (sym alike.0)
    (line_one (is_passed line.text) line other lines others alike.0 alike.1
    (λ own. items_one own lines others alike.1))
items_one (suc own) (line ∷ lines) (other ∷ others) alike = items_one own lines others alike.1
items_one own [] (other ∷ others) alike = absurd alike
items_one own (line ∷ lines) [] alike = absurd alike
