-- The generated laboratory before its run.
use Rattle.std.specs.Prelude.{◌≡◌, ℕ, false, [], ◌∷◌, ◌++◌, codes, map, Some}
use Rattle.std.specs.List.{range_with_len}
use Rattle.std.specs.Fmt.{decimal}
use Rattle.lab_num.specs.declared.key.Member.{Member}
use Rattle.dev_core.specs.declared.kind.Kind.TheVariants.{Uart}
use Rattle.board.specs.Changes.{with_bytes, with_pc}
use Rattle.board.specs.New.{new_board}
use Rattle.board.specs.View.{View}
use Rattle.lab_state.specs.Board.{Board}
use Rattle.lab_state.specs.Hub.{Hub}
use Rattle.lab_state.specs.Lab.{Lab, Seen}
use Rattle.lab_gen.specs.Firmware.{program}
use Rattle.lab_gen.specs.Plan.{plan}

-- a new board with its program at the start of its memory, whose next instruction is the first of it
abbrev pub view : ℕ → ℕ → View
view seed i = with_pc (with_bytes (new_board i plan) 0x80000000 (program seed i)) 0 0x80000000

-- the boards are called `m0`, `m1` and so on
abbrev pub board : ℕ → ℕ → Board
board seed i = record { name = codes "m" ++ decimal i; view = Some (view seed i) }

abbrev pub uart_of : ℕ → Member
uart_of i = record { board = record { 0 = i }; dev = 0 }

-- all UARTs are on one hub without delay, in order of their boards
abbrev pub hub : ℕ → Hub
hub boards =
    record { name = codes "hub"; kind = Uart; delay = 0; members = map uart_of (range_with_len 0 boards) }

-- so many boards of a seed, at time 0 and with rounds of 100 microseconds
abbrev pub generated : ℕ → ℕ → Lab
generated seed boards = record {
  boards = map (board seed) (range_with_len 0 boards);
  hubs = hub boards ∷ [];
  pending = [];
  now = 0;
  quantum = 100;
}

-- this is that laboratory, and it is not spent
abbrev pub IsGenerated : ℕ → ℕ → Seen → Type 0
IsGenerated seed boards seen = seen ≡ record { lab = generated seed boards; spent = false }
