use Rattle.std.proofs.Common.{◌≡◌, ap, true, arith, rules}
use Rattle.time_handle.specs.Grant as grants
use Rattle.time_source.proofs.SourceLemmas.{least_is, elapsed-open}
use Rattle.time_source.proofs.source.Source.elapsed.Goals as goal

pub returns-in-Some-clause-value : goal.returns-in-Some-clause-value
returns-in-Some-clause-value c =
    let (k, g, below, at, (is, _)) = c.in-Some.ensures.one in
    let now = c.args.self.now in
    let is_open : now.is_open ≡ true = search rules in
    let found =
    least_is grants.elapsed c.in-Some.time now.end c.handles.result.now k g below at is c.in-Some.ensures.least
    in
    elapsed-open now c.in-Some.time is_open (rw c.handles.ensures.handles at found)

pub returns-in-Some-clause-last : goal.returns-in-Some-clause-last
returns-in-Some-clause-last c =
    let (k, g, below, at, (_, within)) = c.in-Some.ensures.one in
    omega (arith, within, c.handles.ensures.ends k g below, ap (λ (h : grants.Grant). h.to) at)
