use Rattle.std.proofs.Common.{◌∙◌, ap, sym}
use Rattle.monitor.specs.Images.{is_entry, with_entry}
use Rattle.monitor.proofs.ImageLemmas.{no_entry, unchanged}
use Rattle.monitor.proofs.monitor.Monitor.set_entry.Goals as goal

pub set_each_pc-requires-clause-is_entry : goal.set_each_pc-requires-clause-is_entry
set_each_pc-requires-clause-is_entry g c = λ v seen. ap (is_entry v) (sym c.in-Some.is) ∙ c.requires.is_entry v seen

pub returns-in_default : goal.returns-in_default
returns-in_default g c =
    unchanged c.args.b.0 (λ v. with_entry v c.args.entry) c.args.self.now
    (λ v. no_entry c.args.entry v c.in_default.not-Some)
