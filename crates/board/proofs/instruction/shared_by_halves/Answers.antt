-- What a half-word is may be performed.
use Rattle.board.proofs.instruction.shared_by_halves.Goals as goal

pub returns-then-half-ne3-clause-sharable : goal.returns-then-half-ne3-clause-sharable
returns-then-half-ne3-clause-sharable g c = c.of_half.ensures.performable c.args.hart.now.letters c.requires
