-- What is fetched by half-words may be performed.
use Rattle.board.proofs.instruction.by_halves.Goals as goal

pub perform-requires-else-half-eq3 : goal.perform-requires-else-half-eq3
perform-requires-else-half-eq3 g c = c.of_half.ensures.performable c.args.hart.now.letters c.requires
