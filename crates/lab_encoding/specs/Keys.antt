-- How times, the numbers of boards and posts, keys and members are spelled.
use Rattle.std.proofs.Common.{refl}
use Rattle.lab_num.specs.declared.number.Micros.{Micros}
use Rattle.lab_num.specs.declared.number.BoardNo.{BoardNo}
use Rattle.lab_num.specs.declared.number.PostNo.{PostNo}
use Rattle.lab_num.specs.declared.key.Key.{Key}
use Rattle.lab_num.specs.declared.key.Member.{Member}
use Rattle.lab_encoding.specs.Form.{Form, IsLawful}
use Rattle.lab_encoding.specs.Combine.{byte, number, via, ◌⊗◌}
use Rattle.lab_encoding.specs.Inner.Laws.{byte_lawful, next_lawful, number_lawful, via_lawful}

-- a time in 8 bytes
unfoldable pub micros_form : Form Micros
micros_form =
    via (λ s. s.0)
    (λ value. record { 0 = value })
    (number 8)

pub micros_lawful : IsLawful micros_form
unfolding micros_form
micros_lawful = via_lawful _ _ (λ x. refl) (λ a. refl) (number_lawful 8)

-- the number of a board in one byte
unfoldable pub board_no_form : Form BoardNo
board_no_form =
    via (λ s. s.0)
    (λ value. record { 0 = value })
    (byte)

pub board_no_lawful : IsLawful board_no_form
unfolding board_no_form
board_no_lawful = via_lawful _ _ (λ x. refl) (λ a. refl) byte_lawful

-- the number of a post in 8 bytes
unfoldable pub post_no_form : Form PostNo
post_no_form =
    via (λ s. s.0)
    (λ value. record { 0 = value })
    (number 8)

pub post_no_lawful : IsLawful post_no_form
unfolding post_no_form
post_no_lawful = via_lawful _ _ (λ x. refl) (λ a. refl) (number_lawful 8)

-- time, board and number
unfoldable pub key_form : Form Key
key_form =
    via (λ s. (s.at, (s.board, s.number)))
    (λ (at, (board, number)). record { at = at; board = board; number = number })
    (micros_form ⊗ board_no_form ⊗ post_no_form)

pub key_lawful : IsLawful key_form
unfolding key_form
key_lawful = via_lawful _ _ (λ x. refl) (λ a. refl)
    (next_lawful micros_lawful (next_lawful board_no_lawful post_no_lawful))

-- the board, and the place of the device on it
unfoldable pub member_form : Form Member
member_form =
    via (λ s. (s.board, s.dev))
    (λ (board, dev). record { board = board; dev = dev })
    (board_no_form ⊗ byte)

pub member_lawful : IsLawful member_form
unfolding member_form
member_lawful = via_lawful _ _ (λ x. refl) (λ a. refl) (next_lawful board_no_lawful byte_lawful)
