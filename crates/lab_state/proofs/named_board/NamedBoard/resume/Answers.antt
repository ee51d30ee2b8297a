-- The state is the one that the board can have.
use Rattle.lab_state.proofs.named_board.NamedBoard.resume.Goals as goal

pub put_state-requires : goal.put_state-requires
put_state-requires g c = λ v at. c.requires v at c.in-Some.s c.in-Some.is
