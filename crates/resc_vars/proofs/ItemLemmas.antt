-- The items of lines, line by line.
use Rattle.std.proofs.Common.{◌≡◌, ℕ, zero, suc, List, [], ◌∷◌, drop, false, refl, ap}
use Rattle.resc_vars.specs.declared.item.Line.{Line}
use Rattle.resc_vars.specs.Form.{is_passed}
use Rattle.resc_vars.specs.Items.{items, item_at}

items_own : (own : ℕ) (lines : List Line) → items own lines ≡ items 0 (drop own lines)
items_own zero lines = refl
items_own (suc own) [] = refl
items_own (suc own) (line ∷ lines) = items_own own lines

pub items_kept :
    (line : Line) (lines : List Line) → is_passed line.text ≡ false →
    items 0 (line ∷ lines) ≡ (item_at line lines).0 ∷ items 0 (drop (item_at line lines).1 lines)
items_kept line lines kept =
    rw kept (ap (λ rest. (item_at line lines).0 ∷ rest) (items_own (item_at line lines).1 lines))
