-- Lines that a terminal shows as they are.
use Rattle.std.specs.Prelude.{◌≡◌, ℕ, nat_le, ◌&&◌, Bool, IsTrue, List, [], ◌∷◌, ◌++◌}
use Rattle.std.specs.List.{flat_map, list_all}
use Rattle.log_merge.specs.declared.names.BoardNames.{BoardNames}
use Rattle.log_merge.specs.declared.names.Names.{Names}

-- bytes from 0x20 to 0x7E alone
abbrev pub is_printable : List ℕ → Bool
is_printable bytes = list_all (λ byte. nat_le 32 byte && nat_le byte 126) bytes

-- a text of whole lines: each is printable, and a line feed ends it
pub record AreLines (written : List ℕ) : Type 0 where
  pub lines : List (List ℕ)
  pub printable : IsTrue (list_all is_printable lines)
  pub all : written ≡ flat_map (λ line. line ++ 10 ∷ []) lines

-- the names of boards and devices are printable
abbrev pub are_board_names : BoardNames → Bool
are_board_names board = is_printable board.name && list_all is_printable board.devices

abbrev pub are_printable_names : Names → Bool
are_printable_names names = list_all are_board_names names.boards
