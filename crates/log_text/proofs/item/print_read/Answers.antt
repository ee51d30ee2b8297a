use Rattle.std.proofs.Common.{append_assoc}
use Rattle.log_text.specs.Number.{seconds}
use Rattle.log_text.proofs.item.print_read.Goals as goal

pub returns : goal.returns
unfolding seconds
returns c =
    let wrote = (c.in_ok-writeln.ensures {u = tt}).bytes in
    simp append_assoc (simp (c.board_name-board.ensures, append_assoc) at wrote)
