-- The keys of what the boards make in their places differ.
use Rattle.std.proofs.Common.{sym, subst}
use Rattle.std.proofs.lemmas.Result.{IfOk-weaker}
use Rattle.dev_core.specs.Post.{post_key}
use Rattle.lab_num.specs.Key.{KeysDiffer}
use Rattle.lab_state.proofs.RoundLemmas.{posts_differ}
use Rattle.lab_state.proofs.round.step_boards.Goals as goal

pub returns-then-workers-eq1-clause-keys : goal.returns-then-workers-eq1-clause-keys
returns-then-workers-eq1-clause-keys g c =
    IfOk-weaker c.step_in_place.result _ _
    (λ made is.
    subst (KeysDiffer post_key) (sym is)
    (posts_differ c.stretches_number.ensures c.args.from.0 c.args.q c.requires.within c.args.boards.now
    c.requires.standing))
    c.step_in_place.ensures.posts
