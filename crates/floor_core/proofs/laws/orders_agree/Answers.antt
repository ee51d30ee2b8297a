use Rattle.std.proofs.Common.{◌∙◌, sym}
use Rattle.dev_core.specs.Post.{post_key}
use Rattle.floor_core.proofs.MailLemmas.{same_listing}
use Rattle.floor_core.proofs.ResultLemmas.{kept, over}
use Rattle.floor_core.proofs.laws.orders_agree.Goals as goal

pub returns-clause-over : goal.returns-clause-over
returns-clause-over g c =
    let laws = g.met.J.Job g.world.𝓛 g.world.𝓜 g.world.𝓡 ((λ s x. x), (λ x. x), (λ x. x), λ x. x) in
    λ starts events f run ended.
    over g.J.Job.state_after starts f (kept g.J.Job.state_after laws.adds laws.rests starts events f run) ended

pub returns-clause-jobs : goal.returns-clause-jobs
returns-clause-jobs g c =
    let laws = g.met.J.Job g.world.𝓛 g.world.𝓜 g.world.𝓡 ((λ s x. x), (λ x. x), (λ x. x), λ x. x) in
    λ starts one other f h run ended run_too ended_too.
    let first = over g.J.Job.state_after starts f (kept g.J.Job.state_after laws.adds laws.rests starts one f run)
    ended in
    let second =
    over g.J.Job.state_after starts h (kept g.J.Job.state_after laws.adds laws.rests starts other h run_too)
    ended_too in
    first.jobs ∙ sym second.jobs

pub returns-clause-mail : goal.returns-clause-mail
returns-clause-mail g c =
    let laws = g.met.J.Job g.world.𝓛 g.world.𝓜 g.world.𝓡 ((λ s x. x), (λ x. x), (λ x. x), λ x. x) in
    λ starts one other f h run ended run_too ended_too numbered.
    let first = kept g.J.Job.state_after laws.adds laws.rests starts one f run in
    let second = kept g.J.Job.state_after laws.adds laws.rests starts other h run_too in
    same_listing c.key_laws.ensures.total (λ items. c.listing_laws.ensures.is_listing post_key items)
    (λ items listed. c.listing_laws.ensures.only post_key items listed)
    g.J.Job.state_after starts f h first.members (over g.J.Job.state_after starts f first ended) second.members
    (over g.J.Job.state_after starts h second ended_too) numbered
