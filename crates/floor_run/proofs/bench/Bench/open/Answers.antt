use Rattle.std.proofs.Common.{◌==◌, ◌<◌, ◌∷◌, List, All, map, sym, ap, subst, ◌∙◌, if◌then◌else◌}
use Rattle.atomic_table.specs.Table.{opening}
use Rattle.floor_run.specs.Rule.{Rule}
use Rattle.floor_run.specs.Turns.{slots_left, AfterTurns}
use Rattle.floor_run.specs.View.{fresh}
use Rattle.floor_run.proofs.OpenLemmas.{opens}
use Rattle.floor_run.proofs.bench.Bench.open.Goals as goal

pub new-requires : goal.new-requires
new-requires g c =
    let laws = g.met.J.Job g.world.𝓛 g.world.𝓜 g.world.𝓡 ((λ s x. x), (λ x. x), (λ x. x), λ x. x) in
    let words = c.as_slice-2.result.now in
    let cells = c.in_ok-cells.cells.items in
    let slice = c.as_slice.ensures.value in
    subst (λ (l : List g.row.J.Denot). Rule (slots_left g.J.Job.meaning)
    (AfterTurns g.J.Job.meaning g.J.Job.sent g.J.Job.state_after) l (opening words cells (fresh l)))
    (sym (ap (λ v. v.items) c.of-starts.ensures))
    (opens g.J.Job.meaning g.J.Job.sent g.J.Job.state_after laws.rests c.args.jobs.items words cells
    (c.as_slice-2.ensures.value ∙ (c.in_ok-words.ensures.words ∙
    ap (λ (l : List g.row.J.Denot). 0 ∷ map (λ job. if slots_left g.J.Job.meaning job == 0 then 3 else 0) l) slice))
    c.in_ok-cells.ensures c.requires.sent
    (subst (All (λ job. slots_left g.J.Job.meaning job < 18446744073709551616)) slice c.in_ok-words.ensures.fit))
