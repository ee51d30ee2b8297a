use Rattle.board_laws.proofs.TurnLemmas.{next-stretch, turns_fair}
use Rattle.board_laws.proofs.turns.harts_take_turns.Goals as goal

pub returns-clause-turn : goal.returns-clause-turn
returns-clause-turn c = next-stretch

pub returns-clause-fair : goal.returns-clause-fair
returns-clause-fair c = turns_fair
