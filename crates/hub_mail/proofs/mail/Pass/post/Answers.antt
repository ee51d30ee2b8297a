use Rattle.std.proofs.Common.{◌∙◌, sym, ap, subst}
use Rattle.hub_mail.specs.Inner.Seen.{pass_of}
use Rattle.hub_mail.specs.Pass.{Pass}
use Rattle.hub_mail.specs.Posts.{IsAbove}
use Rattle.hub_mail.proofs.Keeps.{posts}
use Rattle.hub_mail.proofs.mail.Pass.post.Goals as goal

pub push_as-requires-clause-rule : goal.push_as-requires-clause-rule
push_as-requires-clause-rule g c n =
    let s = c.self.invariant.1 in
    let is = sym c.self.view_is ∙ ap (pass_of c.self.inside.shared.value.queue) s.2 in
    posts n _ _ _ s.0 s.1 s.2 (c.requires.board ∙ ap (λ (p : Pass). p.board) is)
    (subst (λ (p : Pass). IsAbove c.args.post.key.number.0 p.posted) is c.requires.number)
