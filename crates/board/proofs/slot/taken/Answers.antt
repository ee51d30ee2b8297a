use Rattle.std.proofs.Common.{◌≡◌, ◌∙◌, ℕ, ◌==◌, Bool, true, false, None, refl, sym, arith}
use Rattle.std.specs.Prelude.{if◌then◌else◌, bit_and}
use Rattle.std.proofs.lemmas.Bool.{eqb-true}
use Rattle.std.proofs.lemmas.Bool.Decides.{nat_tests}
use Rattle.rv_hart.specs.Core.{Core}
use Rattle.rv_hart.specs.Trap.{chosen, is_ready, most_urgent}
use Rattle.board.proofs.slot.taken.Goals as goal

-- where no interrupt is ready, none is taken
none-ready : (core : Core) (mip : ℕ) → is_ready core mip ≡ false → chosen core mip ≡ None
unfolding chosen most_urgent
none-ready core mip unready =
    let none : (bit_and mip core.mie == 0) ≡ true = grind (arith, nat_tests, unready) in
    rw (eqb-true (bit_and mip core.mie) 0 none) (by_on core.mstatus_mie)
  where
    by_on : (on : Bool) → (if on then most_urgent 0 else None) ≡ None
    by_on true = refl
    by_on false = refl

pub returns-else-is_ready : goal.returns-else-is_ready
returns-else-is_ready c = sym (none-ready _ _ (sym c.is_ready.ensures ∙ c.if-is_ready.false))
