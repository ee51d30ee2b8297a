use Rattle.board.proofs.StateLemmas.{board_there, brought_back, state_there}
use Rattle.board.proofs.laws.states_are_put_back.Goals as goal

pub returns-clause-same : goal.returns-clause-same
returns-clause-same c = λ v board. brought_back v

pub returns-clause-brought : goal.returns-clause-brought
returns-clause-brought c = λ v s fits board. (state_there v s fits board, board_there v s fits board)
