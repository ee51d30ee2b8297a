use Rattle.std.proofs.Common.{◌∙◌, ap, sym}
use Rattle.board_space.specs.Lines.{sampled, sources_up}
use Rattle.board_space.proofs.LineLemmas.{sampled_is, sampled_twice}
use Rattle.board_space.proofs.space.Space.sample_sources.Goals as goal

pub returns-clause-after : goal.returns-clause-after
returns-clause-after g c =
    sampled_is _ _ _ c.sample.ensures.after (c.sources_up-sources.ensures ∙ ap sources_up (sym c.self.view_is))
    ∙ ap sampled c.self.view_is

pub returns-clause-settled : goal.returns-clause-settled
returns-clause-settled g c =
    sampled_twice c.second_samples_change_nothing.ensures _ _ (returns-clause-after g c)
