-- How the states of timers and interrupt controllers are spelled: their fields in order.
use Rattle.std.proofs.Common.{refl}
use Rattle.clint.specs.declared.state.ClintState.{ClintState}
use Rattle.plic.specs.declared.state.PlicState.{PlicState}
use Rattle.lab_encoding.specs.Form.{Form, IsLawful}
use Rattle.lab_encoding.specs.Combine.{byte, flag, number, times, via, ◌⊗◌}
use Rattle.lab_encoding.specs.Inner.Laws.{byte_lawful, flag_lawful, next_lawful, number_lawful, times_lawful}
use Rattle.lab_encoding.specs.Inner.Laws.{via_lawful}

-- the fields of a timer
unfoldable pub clint_form : Form ClintState
clint_form =
    via
    (λ s. (s.msip, (s.mtimecmp, s.offset)))
    (λ (msip, (mtimecmp, offset)). record {
      msip = msip;
      mtimecmp = mtimecmp;
      offset = offset;
    })
    (flag  -- msip
    ⊗ number 8  -- mtimecmp
    ⊗ number 8)  -- offset

pub clint_lawful : IsLawful clint_form
unfolding clint_form
clint_lawful =
    via_lawful _ _ (λ x. refl) (λ a. refl)
    (next_lawful flag_lawful (next_lawful (number_lawful 8) (number_lawful 8)))

-- the fields of an interrupt controller
unfoldable pub plic_form : Form PlicState
plic_form =
    via
    (λ s. (s.priorities, (s.pending, (s.shut, (s.enables, s.thresholds)))))
    (λ (priorities, (pending, (shut, (enables, thresholds)))). record {
      priorities = priorities;
      pending = pending;
      shut = shut;
      enables = enables;
      thresholds = thresholds;
    })
    (times 128 byte  -- priorities
    ⊗ number 16  -- pending
    ⊗ number 16  -- shut
    ⊗ times 15 (number 16)  -- enables
    ⊗ times 15 byte)  -- thresholds

pub plic_lawful : IsLawful plic_form
unfolding plic_form
plic_lawful =
    via_lawful _ _ (λ x. refl) (λ a. refl)
    (next_lawful (times_lawful 128 byte_lawful) (next_lawful (number_lawful 16) (next_lawful (number_lawful 16)
    (next_lawful (times_lawful 15 (number_lawful 16)) (times_lawful 15 byte_lawful)))))
