-- One member more has used up its part.
use Rattle.std.proofs.Common.{◌∙◌, sym, ap, ◌<◌, length, arith}
use Rattle.std.specs.Prelude.{slice_set}
use Rattle.std.proofs.lemmas.List.Edits.{map_over_more}
use Rattle.std.proofs.lemmas.Option.{get_or_from_slice_get}
use Rattle.time_source.specs.Tree.{Tree}
use Rattle.lab_state.specs.Inner.Time.{used_up}
use Rattle.lab_state.proofs.round.use_up.Goals as goal

pub loop-n-preserved : goal.loop-n-preserved
loop-n-preserved c =
    let i = c.loop-n.n in
    let first = c.args.source.now in
    let source = c.loop-n.source in
    let old = c.handle-grant.result in
    let so_far = c.loop-n.invariant in
    let within : i < length first.handles = omega arith in
    c.put.ensures.placed
    ∙ ap (λ (t : Tree). record t { handles = slice_set source.handles i c.used-report.new.self }) so_far
    ∙ ap (λ handles. record first { handles = handles })
    (ap (slice_set source.handles i)
    (c.used-report.ensures.used ∙ ap (λ n. record old { used = n }) c.left.ensures.rest)
    ∙ map_over_more used_up first.handles source.handles i old within (ap (λ (t : Tree). t.handles) so_far)
    (sym (get_or_from_slice_get source.handles i old old c.handle-grant.ensures)))
