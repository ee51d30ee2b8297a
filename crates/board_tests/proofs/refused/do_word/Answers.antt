-- What a word is may be done by any hart.
use Rattle.board_tests.proofs.refused.do_word.Goals as goal

pub step_shared-requires-clause-sharable : goal.step_shared-requires-clause-sharable
step_shared-requires-clause-sharable c = c.meaning-what.ensures c.args.hart.now.letters
