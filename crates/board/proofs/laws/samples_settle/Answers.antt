use Rattle.std.proofs.Common.{refl}
use Rattle.board_space.specs.Lines.{sampled}
use Rattle.board_space.proofs.LineLemmas.{sampled_twice}
use Rattle.board.proofs.laws.samples_settle.Goals as goal

pub returns : goal.returns
returns c = λ s. sampled_twice c.second_samples_change_nothing.ensures s (sampled s) refl
