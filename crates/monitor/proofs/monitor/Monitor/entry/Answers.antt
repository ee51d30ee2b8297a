use Rattle.std.proofs.Common.{◌≡◌, ◌∙◌, ap, None, Some}
use Rattle.std.proofs.lemmas.Option.{same_Some}
use Rattle.lab_state.specs.One.{view_of}
use Rattle.monitor.proofs.BoardLemmas.{entry_is}
use Rattle.monitor.proofs.monitor.Monitor.entry.Goals as goal

pub returns-in-Some : goal.returns-in-Some
returns-in-Some g c = λ v seen.
    let view : c.board.result.now.view ≡ v =
    same_Some _ _ (c.board.ensures.view ∙ ap (λ s. view_of s.state.lab c.args.b.0) c.self.view_is ∙ seen) in
    entry_is c.args.b.0 v c.plan.result.now c.args.word.now c.entry_name.result.now (Some c.in-Some.named.now)
    (c.plan.ensures.plan ∙ ap (λ v. v.space.plan) view) c.entry_name.ensures c.in-Some.ensures

pub returns-in-None : goal.returns-in-None
returns-in-None g c = λ v seen.
    let view : c.board.result.now.view ≡ v =
    same_Some _ _ (c.board.ensures.view ∙ ap (λ s. view_of s.state.lab c.args.b.0) c.self.view_is ∙ seen) in
    entry_is c.args.b.0 v c.plan.result.now c.args.word.now c.entry_name.result.now None
    (c.plan.ensures.plan ∙ ap (λ v. v.space.plan) view) c.entry_name.ensures c.in-None.ensures
