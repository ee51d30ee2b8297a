-- What a `MaybeBox` ends as, once a `&mut` to its value has ended.
use Rattle.std.specs.Prelude.{Option, Some}
use Rattle.std.specs.Borrow.{Fml, RattleType, MutBor, Lends}
use Rattle.page_ram.specs.declared.maybe_box.MaybeBox.{MaybeBox}
use Rattle.page_ram.specs.contracts.maybe_box.MaybeBox.{the_row}

module _ {X : Type 0} where
  -- the same pointer, with another value behind it
  abbrev pub with_held : MaybeBox X → Option X → MaybeBox X
  with_held b h = record b { held = h }

-- the value is lent, and is what the `&mut` to it leaves
abbrev pub lends_value : (R : RattleType) → MutBor (MaybeBox R.Denot) → MutBor R.Denot → Fml
lends_value R b r = Lends (the_row R) R b r (λ x. with_held b.now (Some x))
