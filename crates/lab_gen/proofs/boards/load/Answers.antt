use Rattle.std.proofs.Common.{◌<◌, length}
use Rattle.board.specs.Changes.{with_bytes}
use Rattle.lab_gen.proofs.MoreBoards.{changed_for, changed_has}
use Rattle.lab_gen.proofs.boards.load.Goals as goal

pub set_pc-requires-clause-has_plan : goal.set_pc-requires-clause-has_plan
set_pc-requires-clause-has_plan g c =
    rw c.in_ok-copy_in.ensures.ok
    (changed_has c.args.lab.now.lab.boards c.args.b.0 (λ v. with_bytes v 0x80000000 c.args.program.now)
    c.requires.has_plan)

pub set_pc-requires-clause-hart : goal.set_pc-requires-clause-hart
set_pc-requires-clause-hart g c =
    rw c.in_ok-copy_in.ensures.ok
    (changed_for c.args.lab.now.lab.boards c.args.b.0 (λ v. with_bytes v 0x80000000 c.args.program.now)
    (λ v. 0 < length v.cores) c.requires.has_processor)
