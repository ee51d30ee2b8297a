-- What is left of lines after the first ones, step by step.
use Rattle.std.proofs.Common.{◌≡◌, ◌∷◌, ◌++◌, ◌+◌, ◌-◌, ◌∙◌, ℕ, List, [], length, take, drop, Bool, true, false}
use Rattle.std.proofs.Common.{arith, refl, sym, ap, subst, append_assoc, length-drop, position, cond, nat_lt, Option}
use Rattle.std.proofs.Common.{Some, None, Result, Ok, Err}
use Rattle.std.specs.Prelude.{IfOk}
use Rattle.std.specs.List.{position_or_len}
use Rattle.std.specs.Option.{option_map}
use Rattle.std.proofs.lemmas.Bool.Decides.{nat_tests}
use Rattle.std.proofs.lemmas.List.{drop-drop, drop_all}
use Rattle.resc_vars.specs.declared.form.Form.TheVariants as forms
use Rattle.resc_vars.specs.declared.item.Item.{Item}
use Rattle.resc_vars.specs.declared.item.Item.TheVariants.{Define, Malformed, Unclosed}
use Rattle.resc_vars.specs.declared.item.Line.{Line}
use Rattle.resc_vars.specs.declared.lines.Rest.{Rest}
use Rattle.resc_vars.specs.Form.{form_of, is_passed}
use Rattle.resc_vars.specs.Inner.Rest.{Begins, EndsWith, Follows, IsItem, IsMacro, Skips, lines_of}
use Rattle.resc_vars.specs.Items.{begin, is_fence_line, item_at, items, macro_item}
use Rattle.resc_vars.specs.Numbered.{numbers_fit}
use Rattle.resc_vars.proofs.ItemLemmas.{items_kept}

pub ends_join : (a b c : List ℕ) → EndsWith a b → EndsWith b c → EndsWith a c
ends_join a b c (front, is) (more, also) =
    (front ++ more, is ∙ (ap (λ x. front ++ x) also ∙ sym (append_assoc front more c)))

pub follows_join : (a b c : Rest) → Follows a b → Follows b c → Follows a c
follows_join a b c ab bc = (ends_join a.text.now b.text.now c.text.now ab.0 bc.0, bc.1)

pub skips_none : (a : Rest) → numbers_fit a.number a.text.now → Skips 0 a a
skips_none a fit = (omega arith, refl, (([], refl), fit))

pub skips_one : (a b : Rest) (line : Line) → lines_of a ≡ line ∷ lines_of b → Follows a b → Skips 1 a b
skips_one a b line is follows =
    (rw is (omega arith), rw is refl, follows)

pub skips_join : (n m : ℕ) (a b c : Rest) → Skips n a b → Skips m b c → Skips (n + m) a c
skips_join n m a b c (few, is, follows) (more, also, further) =
    let left : length (lines_of b) ≡ length (lines_of a) - n = ap length is ∙ length-drop n (lines_of a) in (
      omega (arith, few, more, left),
      also ∙ (ap (drop m) is ∙ drop-drop m n (lines_of a)),
      follows_join a b c follows further,
    )

-- a line that is no fence is passed over in the search for one
pub fence_later :
    (line : Line) (lines : List Line) (n : ℕ) → is_fence_line line ≡ false →
    option_map (λ k. k + n) (position is_fence_line (line ∷ lines))
    ≡ option_map (λ k. k + (n + 1)) (position is_fence_line lines)
fence_later line lines n other =
    let at = position_or_len is_fence_line lines in
    let first : position_or_len is_fence_line (line ∷ lines) ≡ 1 + at = rw other refl in
    let next : nat_lt (1 + at) (length (line ∷ lines)) ≡ nat_lt at (length lines) = grind (arith, nat_tests) in
    ap (λ i. option_map (λ k. k + n) (cond (nat_lt i (length (line ∷ lines))) (Some i) None)) first
    ∙ (ap (λ (inside : Bool). option_map (λ k. k + n) (cond inside (Some (1 + at)) None)) next
    ∙ both (nat_lt at (length lines)) at)
  where
    both :
        (b : Bool) (k : ℕ) →
        option_map (λ k. k + n) (cond b (Some (1 + k)) None) ≡ option_map (λ k. k + (n + 1)) (cond b (Some k) None)
    both true k = ap Some (omega arith)
    both false k = refl

pub begun_follows :
    (o : Option ℕ) (rest body : Rest) → Begins o rest (Some body) → Follows rest body
begun_follows None rest body begins = absurd begins
begun_follows (Some from) rest body (few, is, follows) = follows

pub begun_none : (o : Option ℕ) (rest : Rest) → Begins o rest None → o ≡ None
begun_none None rest begins = refl
begun_none (Some from) rest begins = absurd begins

pub no_macro :
    (line : Line) (name : List ℕ) (opened : Bool) (rest : Rest) →
    form_of line.text ≡ forms.Macro name opened → Begins (begin opened (lines_of rest)) rest None →
    item_at line (lines_of rest) ≡ (Malformed line, 0)
unfolding item_at
no_macro line name opened rest form begins = rw (form, begun_none (begin opened (lines_of rest)) rest begins) refl

macro_by :
    (line : Line) (name : List ℕ) (lines body : List Line) (from k : ℕ) → body ≡ drop from lines →
    position is_fence_line body ≡ Some k →
    macro_item line name lines from ≡ (Define line.number name (take k body), from + k + 1)
macro_by line name lines body from k is fence =
    rw (← is, fence) (ap (λ (xs : List Line). (Define line.number name (take k xs), from + k + 1)) (sym is))

macro_open :
    (line : Line) (name : List ℕ) (lines body : List Line) (from : ℕ) → body ≡ drop from lines →
    position is_fence_line body ≡ None → macro_item line name lines from ≡ (Unclosed line.number, length lines)
macro_open line name lines body from is fence = rw (← is, fence) refl

item_macro :
    (line : Line) (name : List ℕ) (opened : Bool) (lines : List Line) (from : ℕ) →
    form_of line.text ≡ forms.Macro name opened → begin opened lines ≡ Some from →
    item_at line lines ≡ macro_item line name lines from
unfolding item_at
item_macro line name opened lines from form begins = rw (form, begins) refl

macro_at :
    (line : Line) (name : List ℕ) (opened : Bool) (from : ℕ) (rest body : Rest) (found : Item × Rest) (p : Option ℕ) →
    form_of line.text ≡ forms.Macro name opened → begin opened (lines_of rest) ≡ Some from → Skips from rest body →
    position is_fence_line (lines_of body) ≡ p → IsMacro line.number name body found → IsItem line rest found
macro_at line name opened from rest body found None form begins (few, is, follows) fence macro =
    let (item, none, further) = rw fence at macro in
    let all : drop (length (lines_of rest)) (lines_of rest) ≡ [] =
    drop_all (length (lines_of rest)) (lines_of rest) (omega arith) in (
      length (lines_of rest),
      item_macro line name opened (lines_of rest) from form begins
          ∙ (macro_open line name (lines_of rest) (lines_of body) from is fence
          ∙ ap (λ (x : Item). (x, length (lines_of rest))) (sym item)),
      (omega arith, none ∙ sym all, follows_join rest body found.1 follows further),
    )
macro_at line name opened from rest body found (Some k) form begins (few, is, follows) fence macro =
    let (item, more) = rw fence at macro in
    let own : from + (k + 1) ≡ from + k + 1 = omega arith in
    let skips : Skips (from + k + 1) rest found.1 =
    subst (λ n. Skips n rest found.1) own (skips_join from (k + 1) rest body found.1 (few, is, follows) more) in (
      from + k + 1,
      item_macro line name opened (lines_of rest) from form begins
          ∙ (macro_by line name (lines_of rest) (lines_of body) from k is fence
          ∙ ap (λ (x : Item). (x, from + k + 1)) (sym item)),
      skips,
    )

macro_begun :
    (line : Line) (name : List ℕ) (opened : Bool) (o : Option ℕ) (rest body : Rest) (found : Item × Rest) →
    form_of line.text ≡ forms.Macro name opened → begin opened (lines_of rest) ≡ o → Begins o rest (Some body) →
    IsMacro line.number name body found → IsItem line rest found
macro_begun line name opened None rest body found form is begins macro = absurd begins
macro_begun line name opened (Some from) rest body found form is begins macro =
    macro_at line name opened from rest body found _ form is begins refl macro

-- the item of a macro whose body begins there
pub macro_is_item :
    {E : Type 0} (line : Line) (name : List ℕ) (opened : Bool) (rest body : Rest) (result : Result (Item × Rest) E) →
    form_of line.text ≡ forms.Macro name opened → Begins (begin opened (lines_of rest)) rest (Some body) →
    IfOk result (λ found. IsMacro line.number name body found) → IfOk result (λ found. IsItem line rest found)
macro_is_item line name opened rest body (Ok found) form begins macro =
    macro_begun line name opened _ rest body found form refl begins macro
macro_is_item line name opened rest body (Err fault) form begins macro = tt

-- the first item of lines stands at the first line that is not passed over
pub item_first :
    (line : Line) (rest later : Rest) (found : Item × Rest) → lines_of rest ≡ line ∷ lines_of later →
    is_passed line.text ≡ false → IsItem line later found →
    items 0 (lines_of rest) ≡ found.0 ∷ items 0 (lines_of found.1)
item_first line rest later found is kept (own, here, (few, left, follows)) =
    ap (items 0) is
    ∙ (items_kept line (lines_of later) kept
    ∙ (ap (λ (x : Item × ℕ). x.0 ∷ items 0 (drop x.1 (lines_of later))) here
    ∙ ap (λ xs. found.0 ∷ items 0 xs) (sym left)))

pub item_passed :
    (line : Line) (lines later : List Line) → lines ≡ line ∷ later → is_passed line.text ≡ true →
    items 0 lines ≡ items 0 later
item_passed line lines later is passed = ap (items 0) is ∙ rw passed refl

pub item_follows : (line : Line) (rest : Rest) (found : Item × Rest) → IsItem line rest found → Follows rest found.1
item_follows line rest found (own, here, (few, left, follows)) = follows
