-- How a whole laboratory is spelled.
use Rattle.std.proofs.Common.{refl, ℕ, List}
use Rattle.std.specs.Prelude.{codes}
use Rattle.lab_encoding.specs.Form.{Form, IsLawful}
use Rattle.lab_encoding.specs.Combine.{list, marked, number, option, text, via, ◌⊗◌}
use Rattle.lab_encoding.specs.Inner.Laws.{list_lawful, marked_lawful, next_lawful, number_lawful, option_lawful}
use Rattle.lab_encoding.specs.Inner.Laws.{text_lawful, via_lawful}
use Rattle.lab_encoding.specs.Keys.{micros_form, micros_lawful}
use Rattle.lab_encoding.specs.OpenLines.{open_line_form, open_line_lawful}
use Rattle.lab_encoding.specs.Posts.{post_form, post_lawful}
use Rattle.lab_snap.specs.declared.lab.SavedBoard.{SavedBoard}
use Rattle.lab_snap.specs.declared.lab.SavedLab.{SavedLab}
use Rattle.lab_snap.specs.Hub.{hub_form, hub_lawful}
use Rattle.lab_snap.specs.MachineForm.{machine_form, machine_lawful}

-- the name, and what stands under it
unfoldable pub board_form : Form SavedBoard
board_form =
    via (λ s. (s.name, s.machine)) (λ (name, machine). record { name = name; machine = machine })
    (text ⊗ option machine_form)

pub board_lawful : IsLawful board_form
unfolding board_form
board_lawful = via_lawful _ _ (λ x. refl) (λ a. refl) (next_lawful text_lawful (option_lawful machine_lawful))

-- what a snapshot begins with
abbrev pub mark : List ℕ
mark = codes "LABSNAP1"

-- the mark, and the fields of the laboratory
unfoldable pub lab_form : Form SavedLab
lab_form =
    marked mark
    (via
    (λ s. (s.time, (s.quantum, (s.boards, (s.hubs, (s.pending, s.lines))))))
    (λ (time, (quantum, (boards, (hubs, (pending, lines))))). record {
      time = time;
      quantum = quantum;
      boards = boards;
      hubs = hubs;
      pending = pending;
      lines = lines;
    })
    (micros_form  -- time
    ⊗ number 8  -- quantum
    ⊗ list board_form  -- boards
    ⊗ list hub_form  -- hubs
    ⊗ list post_form  -- pending
    ⊗ list open_line_form))  -- lines

pub lab_lawful : IsLawful lab_form
unfolding lab_form
lab_lawful =
    marked_lawful mark
    (via_lawful _ _ (λ x. refl) (λ a. refl)
    (next_lawful micros_lawful (next_lawful (number_lawful 8) (next_lawful (list_lawful board_lawful)
    (next_lawful (list_lawful hub_lawful) (next_lawful (list_lawful post_lawful) (list_lawful open_line_lawful)))))))
