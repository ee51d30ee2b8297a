-- The names that the log prints.
use Rattle.std.specs.Prelude.{ℕ, List, [], ◌++◌, codes, slice_index_or}
use Rattle.lab_num.specs.declared.key.Member.{Member}
use Rattle.lab_num.specs.declared.number.BoardNo.{BoardNo}
use Rattle.log_merge.specs.declared.names.Names.{Names}
use Rattle.log_merge.specs.declared.names.BoardNames.{BoardNames}

-- the names of a board and of its devices; no names where there is no such board
abbrev pub names_of_board : Names → BoardNo → BoardNames
names_of_board names board = slice_index_or names.boards board.0 (record { name = []; devices = [] })

-- the name of a board, and of a device; nothing where it has none
abbrev pub board_name : Names → BoardNo → List ℕ
board_name names board = (names_of_board names board).name

abbrev pub device_name : Names → Member → List ℕ
device_name names m = slice_index_or (names_of_board names m.board).devices m.dev []

-- a device as the log names it, `{board}/{device}`
abbrev pub place_name : Names → Member → List ℕ
place_name names m = board_name names m.board ++ codes "/" ++ device_name names m
