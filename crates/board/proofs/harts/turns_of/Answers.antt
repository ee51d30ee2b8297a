use Rattle.std.proofs.Common.{rules}
use Rattle.board.proofs.TurnLemmas.{turns_are}
use Rattle.board.proofs.harts.turns_of.Goals as goal

-- src/harts.rt:80:1
pub returns : goal.returns
returns c =
    rw (c.from.ensures, turns_are c.args.harts c.args.next c.args.slots c.args.hart c.requires.next c.requires.hart)
    (search rules)
