-- Changes of one board that leave its name, its devices and its numbers.
use Rattle.std.proofs.Common.{◌≡◌, ap, refl, ℕ, List, [], ◌∷◌, Option, None, Some, zero, suc}
use Rattle.std.specs.Option.{option_map}
use Rattle.page_ram.specs.Bytes.{zeros}
use Rattle.board.specs.Changes.{with_bytes}
use Rattle.board.specs.View.{View}
use Rattle.board_space.proofs.CopyLemmas.{plan-copied}
use Rattle.lab_state.specs.declared.board_change.BoardChange.{BoardChange}
use Rattle.lab_state.specs.declared.board_change.BoardChange.TheVariants as change
use Rattle.lab_state.specs.Board.{Board}
use Rattle.lab_state.specs.One.{with_view, view_at}
use Rattle.lab_state.specs.Inner.BoardChange.{changed_by}
use Rattle.lab_state.specs.Inner.Standing.{outline}
use Rattle.lab_num.specs.Change.{change_at}

-- a part of a view that a change leaves
pub same_part :
    {A B : Type 0} (g : A → B) (f : A → A) → ((x : A) → g (f x) ≡ g x) → (o : Option A) →
    option_map g (option_map f o) ≡ option_map g o
same_part g f same None = refl
same_part g f same (Some x) = ap Some (same x)

pub outline-view :
    (f : View → View) → ((v : View) → (f v).space.plan ≡ v.space.plan) → (board : Board) →
    outline (with_view f board) ≡ outline board
outline-view f keeps board =
    ap (λ kinds. record { name = board.name; kinds = kinds })
    (same_part (λ v. v.space.plan.kinds) f (λ v. ap (λ plan. plan.kinds) (keeps v)) board.view)

-- a change that leaves the plan and the numbers
abbrev pub Leaves : (View → View) → Type 0
Leaves f = (v : View) → ((f v).space.plan ≡ v.space.plan) × ((f v).numbers ≡ v.numbers)

pub bytes-leave : (at : ℕ) (bytes : List ℕ) → Leaves (λ v. with_bytes v at bytes)
bytes-leave at bytes v = (plan-copied v.space at bytes, refl)

pub change-leaves : (c : BoardChange) → Leaves (changed_by c)
change-leaves (change.Pc hart pc) v = (refl, refl)
change-leaves (change.Halted hart on) v = (refl, refl)
change-leaves (change.Shown dev) v = (refl, refl)
change-leaves (change.Zero at count) v = bytes-leave at (zeros count) v
change-leaves change.Reset v = (refl, refl)

-- what stands under the name of a board that was changed
pub view_changed :
    (boards : List Board) (b : ℕ) (f : View → View) →
    view_at (change_at boards b (with_view f)) b ≡ option_map f (view_at boards b)
view_changed [] b f = refl
view_changed (board ∷ boards) zero f = refl
view_changed (board ∷ boards) (suc b) f = view_changed boards b f
