-- How the plan of a board is spelled: its fields in order.
use Rattle.std.proofs.Common.{refl, ℕ, List}
use Rattle.rv_hart.specs.declared.letters.Letters.{Letters}
use Rattle.sys_bus.specs.declared.plan.BoardPlan.{BoardPlan}
use Rattle.sys_bus.specs.declared.wire.Wire.{Wire}
use Rattle.lab_encoding.specs.Form.{Form, IsLawful}
use Rattle.lab_encoding.specs.Combine.{list, number, option, text, via, ◌⊗◌}
use Rattle.lab_encoding.specs.HartStates.{letters_form, letters_lawful}
use Rattle.lab_encoding.specs.Inner.Laws.{list_lawful, next_lawful, number_lawful, option_lawful, text_lawful}
use Rattle.lab_encoding.specs.Inner.Laws.{via_lawful}
use Rattle.lab_encoding.specs.PlanParts.{kind_form, kind_lawful, named_form, named_lawful, plic_size_form}
use Rattle.lab_encoding.specs.PlanParts.{plic_size_lawful, region_form, region_lawful, wire_form, wire_lawful}

-- the fields of a plan, whether it is valid or not
unfoldable pub plan_form : Form BoardPlan
plan_form =
    via
    (λ s.
    let more : List Wire × (ℕ × (List (List ℕ) × Letters)) = (s.wires, (s.speed, (s.cpus, s.letters))) in
    (s.names, (s.regions, (s.memories, (s.kinds, (s.frequency, (s.plic, more)))))))
    (λ (names, (regions, (memories, (kinds, (frequency, (plic, more)))))). record {
      names = names;
      regions = regions;
      memories = memories;
      kinds = kinds;
      frequency = frequency;
      plic = plic;
      wires = more.0;
      speed = more.1.0;
      cpus = more.1.1.0;
      letters = more.1.1.1;
    })
    (list named_form  -- names
    ⊗ list region_form  -- regions
    ⊗ list (number 4)  -- memories
    ⊗ list kind_form  -- kinds
    ⊗ option (number 4)  -- frequency
    ⊗ option plic_size_form  -- plic
    ⊗ list wire_form  -- wires
    ⊗ number 4  -- speed
    ⊗ list text  -- cpus
    ⊗ letters_form)  -- letters

pub plan_lawful : IsLawful plan_form
unfolding plan_form
plan_lawful =
    via_lawful _ _ (λ x. refl) (λ a. refl)
    (next_lawful (list_lawful named_lawful) (next_lawful (list_lawful region_lawful)
    (next_lawful (list_lawful (number_lawful 4)) (next_lawful (list_lawful kind_lawful)
    (next_lawful (option_lawful (number_lawful 4)) (next_lawful (option_lawful plic_size_lawful)
    (next_lawful (list_lawful wire_lawful) (next_lawful (number_lawful 4)
    (next_lawful (list_lawful text_lawful) letters_lawful)))))))))
