use Rattle.std.proofs.Common.{ℕ, List, ap, subst, ◌∙◌}
use Rattle.std.specs.Slots.{slots_items, slots_counts}
use Rattle.floor_run.specs.Bench.{BenchModel}
use Rattle.floor_run.specs.Close.{Closing}
use Rattle.floor_run.specs.Inner.Close.{Takes}
use Rattle.floor_run.specs.Turns.{slots_left, AfterTurns}
use Rattle.floor_run.proofs.CloseLemmas.{closes}
use Rattle.floor_run.proofs.bench.Bench.close.Goals as goal

pub returns : goal.returns
returns g c =
    let jobs = c.jobs_of.result.items in
    let words : List ℕ = slots_items c.close.result.words in
    let cells = slots_items c.close.result.slots in
    let n = (slots_counts c.close.result.slots).0 in
    subst (λ (l : List g.row.J.Denot). Closing (slots_left g.J.Job.meaning)
    (AfterTurns g.J.Job.meaning g.J.Job.sent g.J.Job.state_after) l jobs)
    (ap (λ (b : BenchModel g.row.J.Denot). b.starts) c.self.view_is)
    (closes (slots_left g.J.Job.meaning) (AfterTurns g.J.Job.meaning g.J.Job.sent g.J.Job.state_after)
    c.self.inside.table.shared.key.value.items words cells jobs c.close.ensures.values.2 (c.jobs_of.ensures.len ∙ n)
    (subst (λ (k : ℕ). Takes words cells k jobs) n c.jobs_of.ensures.jobs))
