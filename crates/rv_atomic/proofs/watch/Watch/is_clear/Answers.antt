-- Where there is no reservation none ends.
use Rattle.std.proofs.Common.{◌∙◌, sym, ap, take}
use Rattle.std.specs.List.{list_all}
use Rattle.std.specs.Option.{is_none}
use Rattle.rv_atomic.proofs.AloneLemmas.{clear_ends_none}
use Rattle.rv_atomic.proofs.watch.Watch.is_clear.Goals as goal

pub returns-clause-plain : goal.returns-clause-plain
returns-clause-plain c = λ free what.
    let seen = ap (λ n. list_all is_none (take n c.self.inside.words)) (sym c.from.ensures) in
    clear_ends_none c.args.self.now what
    (ap (list_all is_none) (sym c.self.view_is) ∙ seen ∙ sym c.are_none.ensures ∙ free)
