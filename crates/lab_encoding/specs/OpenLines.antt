-- How the open lines of UARTs are spelled.
use Rattle.std.proofs.Common.{refl}
use Rattle.log_text.specs.declared.line.OpenLine.{OpenLine}
use Rattle.lab_encoding.specs.Form.{Form, IsLawful}
use Rattle.lab_encoding.specs.Combine.{byte, list, via, ◌⊗◌}
use Rattle.lab_encoding.specs.Keys.{member_form, member_lawful, micros_form, micros_lawful}
use Rattle.lab_encoding.specs.Inner.Laws.{byte_lawful, list_lawful, next_lawful, via_lawful}

-- the member, the time of its last byte and the bytes
unfoldable pub open_line_form : Form OpenLine
open_line_form =
    via (λ s. (s.member, (s.at, s.bytes)))
    (λ (member, (at, bytes)). record { member = member; at = at; bytes = bytes })
    (member_form ⊗ micros_form ⊗ list byte)

pub open_line_lawful : IsLawful open_line_form
unfolding open_line_form
open_line_lawful =
    via_lawful _ _ (λ x. refl) (λ a. refl)
    (next_lawful member_lawful (next_lawful micros_lawful (list_lawful byte_lawful)))
