-- How the state of a board is spelled: its fields in order.
use Rattle.std.proofs.Common.{refl, ℕ, List, Bool}
use Rattle.board_space.specs.declared.state.BoardState.{BoardState}
use Rattle.dev_core.specs.declared.state.DevState.{DevState}
use Rattle.lab_encoding.specs.Form.{Form, IsLawful}
use Rattle.lab_encoding.specs.Combine.{byte, flag, list, number, option, via, ◌⊗◌}
use Rattle.lab_encoding.specs.DeviceStates.{device_form, device_lawful}
use Rattle.lab_encoding.specs.HartStates.{hart_form, hart_lawful}
use Rattle.lab_encoding.specs.Inner.Laws.{byte_lawful, flag_lawful, list_lawful, next_lawful, number_lawful}
use Rattle.lab_encoding.specs.Inner.Laws.{option_lawful}
use Rattle.lab_encoding.specs.Inner.Laws.{via_lawful}
use Rattle.lab_encoding.specs.InterruptStates.{clint_form, clint_lawful, plic_form, plic_lawful}

-- what of a board changes, its memories aside
unfoldable pub board_state_form : Form BoardState
board_state_form =
    via
    (λ s.
    let more : List DevState × (List Bool × (ℕ × ℕ)) = (s.devices, (s.shown, (s.posted, s.entries))) in
    (s.speed, (s.harts, (s.next, (s.reserved, (s.clint, (s.plic, more)))))))
    (λ (speed, (harts, (next, (reserved, (clint, (plic, more)))))). record {
      speed = speed;
      harts = harts;
      next = next;
      reserved = reserved;
      clint = clint;
      plic = plic;
      devices = more.0;
      shown = more.1.0;
      posted = more.1.1.0;
      entries = more.1.1.1;
    })
    (number 4  -- speed
    ⊗ list hart_form  -- harts
    ⊗ byte  -- next
    ⊗ list (option (number 4))  -- reserved
    ⊗ option clint_form  -- clint
    ⊗ option plic_form  -- plic
    ⊗ list device_form  -- devices
    ⊗ list flag  -- shown
    ⊗ number 8  -- posted
    ⊗ number 8)  -- entries

pub board_state_lawful : IsLawful board_state_form
unfolding board_state_form
board_state_lawful =
    via_lawful _ _ (λ x. refl) (λ a. refl)
    (next_lawful (number_lawful 4) (next_lawful (list_lawful hart_lawful) (next_lawful byte_lawful
    (next_lawful (list_lawful (option_lawful (number_lawful 4))) (next_lawful (option_lawful clint_lawful)
    (next_lawful (option_lawful plic_lawful) (next_lawful (list_lawful device_lawful)
    (next_lawful (list_lawful flag_lawful) (next_lawful (number_lawful 8) (number_lawful 8))))))))))
