-- How the states of processors are spelled: their fields in order.
use Rattle.std.proofs.Common.{refl, ℕ, Bool}
use Rattle.rv_hart.specs.declared.letters.Letters.{Letters}
use Rattle.rv_hart.specs.declared.state.HartState.{HartState}
use Rattle.lab_encoding.specs.Form.{Form, IsLawful}
use Rattle.lab_encoding.specs.Combine.{byte, flag, number, times, via, ◌⊗◌}
use Rattle.lab_encoding.specs.Inner.Laws.{byte_lawful, flag_lawful, next_lawful, number_lawful, times_lawful}
use Rattle.lab_encoding.specs.Inner.Laws.{via_lawful}

-- the two letters
unfoldable pub letters_form : Form Letters
letters_form =
    via (λ s. (s.a, s.c))
    (λ (a, c). record { a = a; c = c })
    (flag ⊗ flag)

pub letters_lawful : IsLawful letters_form
unfolding letters_form
letters_lawful = via_lawful _ _ (λ x. refl) (λ a. refl) (next_lawful flag_lawful flag_lawful)

-- the fields of a processor
unfoldable pub hart_form : Form HartState
hart_form =
    via
    (λ s.
    let more : ℕ × (ℕ × (ℕ × (ℕ × (Bool × (Bool × (Letters × ℕ)))))) =
    (s.mcause, (s.mtval, (s.mcycle, (s.minstret, (s.waiting, (s.halted, (s.letters, s.number))))))) in
    (s.registers, (s.pc, (s.on, (s.before, (s.mie, (s.mtvec, (s.mscratch, (s.mepc, more)))))))))
    (λ (registers, (pc, (on, (before, (mie, (mtvec, (mscratch, (mepc, more)))))))). record {
      registers = registers;
      pc = pc;
      on = on;
      before = before;
      mie = mie;
      mtvec = mtvec;
      mscratch = mscratch;
      mepc = mepc;
      mcause = more.0;
      mtval = more.1.0;
      mcycle = more.1.1.0;
      minstret = more.1.1.1.0;
      waiting = more.1.1.1.1.0;
      halted = more.1.1.1.1.1.0;
      letters = more.1.1.1.1.1.1.0;
      number = more.1.1.1.1.1.1.1;
    })
    (times 32 (number 4)  -- registers
    ⊗ number 4  -- pc
    ⊗ flag  -- on
    ⊗ flag  -- before
    ⊗ number 4  -- mie
    ⊗ number 4  -- mtvec
    ⊗ number 4  -- mscratch
    ⊗ number 4  -- mepc
    ⊗ number 4  -- mcause
    ⊗ number 4  -- mtval
    ⊗ number 8  -- mcycle
    ⊗ number 8  -- minstret
    ⊗ flag  -- waiting
    ⊗ flag  -- halted
    ⊗ letters_form  -- letters
    ⊗ byte)  -- number

pub hart_lawful : IsLawful hart_form
unfolding hart_form
hart_lawful =
    via_lawful _ _ (λ x. refl) (λ a. refl)
    (next_lawful (times_lawful 32 (number_lawful 4)) (next_lawful (number_lawful 4) (next_lawful flag_lawful
    (next_lawful flag_lawful (next_lawful (number_lawful 4) (next_lawful (number_lawful 4)
    (next_lawful (number_lawful 4) (next_lawful (number_lawful 4) (next_lawful (number_lawful 4)
    (next_lawful (number_lawful 4) (next_lawful (number_lawful 8) (next_lawful (number_lawful 8)
    (next_lawful flag_lawful (next_lawful flag_lawful (next_lawful letters_lawful byte_lawful)))))))))))))))
