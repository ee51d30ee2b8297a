-- How the states of devices are spelled: their fields in order.
use Rattle.std.proofs.Common.{refl, ◌≡◌, ◌⊎◌, inl, inr, ℕ, List, Bool}
use Rattle.dev_core.specs.declared.uart_state.UartState.{UartState}
use Rattle.dev_core.specs.declared.can_state.CanState.{CanState}
use Rattle.dev_core.specs.declared.state.DevState.{DevState}
use Rattle.dev_core.specs.declared.state.DevState.TheVariants as device
use Rattle.dev_core.specs.Frame.{FrameData}
use Rattle.lab_encoding.specs.Frames.{byte_row_form, byte_row_lawful, frame_row_form, frame_row_lawful}
use Rattle.lab_encoding.specs.Form.{Form, IsLawful}
use Rattle.lab_encoding.specs.Combine.{byte, choice, flag, nothing, tagged, times, via, ◌⊗◌}
use Rattle.lab_encoding.specs.Inner.Laws.{avoids_choice, avoids_tagged, byte_lawful, choice_lawful, flag_lawful}
use Rattle.lab_encoding.specs.Inner.Laws.{next_lawful, nothing_lawful, tagged_lawful, times_lawful, via_lawful}

-- the fields of a UART
unfoldable pub uart_form : Form UartState
uart_form =
    via
    (λ s. (s.ier, (s.lcr, (s.mcr, (s.scr, (s.dll, (s.dlm, (s.fifos, (s.trigger, (s.received, (s.oe, s.thr)))))))))))
    (λ (ier, (lcr, (mcr, (scr, (dll, (dlm, (fifos, (trigger, (received, (oe, thr)))))))))). record {
      ier = ier;
      lcr = lcr;
      mcr = mcr;
      scr = scr;
      dll = dll;
      dlm = dlm;
      fifos = fifos;
      trigger = trigger;
      received = received;
      oe = oe;
      thr = thr;
    })
    (byte  -- ier
    ⊗ byte  -- lcr
    ⊗ byte  -- mcr
    ⊗ byte  -- scr
    ⊗ byte  -- dll
    ⊗ byte  -- dlm
    ⊗ flag  -- fifos
    ⊗ byte  -- trigger
    ⊗ byte_row_form  -- received
    ⊗ flag  -- oe
    ⊗ flag)  -- thr

pub uart_lawful : IsLawful uart_form
unfolding uart_form
uart_lawful =
    via_lawful _ _ (λ x. refl) (λ a. refl)
    (next_lawful byte_lawful (next_lawful byte_lawful (next_lawful byte_lawful (next_lawful byte_lawful
    (next_lawful byte_lawful (next_lawful byte_lawful (next_lawful flag_lawful (next_lawful byte_lawful
    (next_lawful byte_row_lawful (next_lawful flag_lawful flag_lawful))))))))))

-- the fields of a CAN controller
unfoldable pub can_form : Form CanState
can_form =
    via
    (λ s.
    let more : List ℕ × (List FrameData × (Bool × (Bool × (Bool × Bool)))) =
    (s.transmit, (s.received, (s.dos, (s.ri, (s.ti, s.doi))))) in
    (s.control, (s.code, (s.mask, (s.timing0, (s.timing1, (s.output, (s.divider, more))))))))
    (λ (control, (code, (mask, (timing0, (timing1, (output, (divider, more))))))). record {
      control = control;
      code = code;
      mask = mask;
      timing0 = timing0;
      timing1 = timing1;
      output = output;
      divider = divider;
      transmit = more.0;
      received = more.1.0;
      dos = more.1.1.0;
      ri = more.1.1.1.0;
      ti = more.1.1.1.1.0;
      doi = more.1.1.1.1.1;
    })
    (byte  -- control
    ⊗ byte  -- code
    ⊗ byte  -- mask
    ⊗ byte  -- timing0
    ⊗ byte  -- timing1
    ⊗ byte  -- output
    ⊗ byte  -- divider
    ⊗ times 10 byte  -- transmit
    ⊗ frame_row_form  -- received
    ⊗ flag  -- dos
    ⊗ flag  -- ri
    ⊗ flag  -- ti
    ⊗ flag)  -- doi

pub can_lawful : IsLawful can_form
unfolding can_form
can_lawful =
    via_lawful _ _ (λ x. refl) (λ a. refl)
    (next_lawful byte_lawful (next_lawful byte_lawful (next_lawful byte_lawful (next_lawful byte_lawful
    (next_lawful byte_lawful (next_lawful byte_lawful (next_lawful byte_lawful
    (next_lawful (times_lawful 10 byte_lawful) (next_lawful frame_row_lawful (next_lawful flag_lawful
    (next_lawful flag_lawful (next_lawful flag_lawful flag_lawful))))))))))))

abbrev pub device_to : DevState → UartState ⊎ (CanState ⊎ Unit {0})
device_to (device.Uart x) = inl x
device_to (device.Can x) = inr (inl x)
device_to device.Finisher = inr (inr tt)

abbrev pub device_from : UartState ⊎ (CanState ⊎ Unit {0}) → DevState
device_from (inl x) = device.Uart x
device_from (inr (inl x)) = device.Can x
device_from (inr (inr x)) = device.Finisher

device_again : (x : DevState) → device_from (device_to x) ≡ x
device_again (device.Uart x) = refl
device_again (device.Can x) = refl
device_again device.Finisher = refl

device_back : (a : UartState ⊎ (CanState ⊎ Unit {0})) → device_to (device_from a) ≡ a
device_back (inl x) = refl
device_back (inr (inl x)) = refl
device_back (inr (inr x)) = refl

-- 0 and a UART, 1 and a CAN controller, or 2 for a finisher
unfoldable pub device_form : Form DevState
device_form = via device_to device_from (choice 0 uart_form (choice 1 can_form (tagged 2 nothing)))

pub device_lawful : IsLawful device_form
unfolding device_form
device_lawful =
    via_lawful _ _ device_again device_back
    (choice_lawful 0 (avoids_choice can_form (tagged 2 nothing) 0 1 refl
    (avoids_tagged nothing 0 2 refl)) uart_lawful
    (choice_lawful 1 (avoids_tagged nothing 1 2 refl) can_lawful
    (tagged_lawful 2 nothing_lawful)))
