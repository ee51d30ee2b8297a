use Rattle.clint.proofs.LineLemmas.{changes_twice, falls_at_wraps}
use Rattle.clint.proofs.laws.timer_lines_change_at_most_twice.Goals as goal

pub returns : goal.returns
returns c = record { twice = changes_twice; falls = falls_at_wraps }
