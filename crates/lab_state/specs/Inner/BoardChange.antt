-- What may be changed of a board that has a plan.
use Rattle.std.specs.Prelude.{◌≡◌, ◌<◌, ◌%◌, length, IsTrue}
use Rattle.page_ram.specs.Bytes.{zeros}
use Rattle.board.specs.Changes.{with_pc, with_halted, with_shown, with_bytes, may_be_shown, holds_each}
use Rattle.board.specs.New.{reset}
use Rattle.rv_hart.specs.Core.{alignment}
use Rattle.board.specs.View.{View}
use Rattle.lab_state.specs.declared.board_change.BoardChange.{BoardChange}
use Rattle.lab_state.specs.declared.board_change.BoardChange.TheVariants as change

abbrev pub changed_by : BoardChange → View → View
changed_by (change.Pc hart pc) v = with_pc v hart pc
changed_by (change.Halted hart on) v = with_halted v hart on
changed_by (change.Shown dev) v = with_shown v dev
changed_by (change.Zero at count) v = with_bytes v at (zeros count)
changed_by change.Reset v = reset v

-- when it may be
abbrev pub MayChange : BoardChange → View → Type 0
MayChange (change.Pc hart pc) v = (hart < length v.cores) × (pc % alignment v.space.plan.letters ≡ 0)
MayChange (change.Halted hart on) v = hart < length v.cores
MayChange (change.Shown dev) v = (dev < length v.space.devices) × IsTrue (may_be_shown v dev)
MayChange (change.Zero at count) v = IsTrue (holds_each v.space at count)
MayChange change.Reset v = Unit {0}
