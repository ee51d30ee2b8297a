use Rattle.std.proofs.Common.{refl}
use Rattle.lab_arguments.specs.Grammar.{run_form}
use Rattle.lab_arguments.specs.Inner.Commands.{run_app}
use Rattle.lab_arguments.proofs.CommandLemmas.{run_has}
use Rattle.lab_arguments.proofs.GivesLemmas.{gives_texts}
use Rattle.lab_arguments.proofs.command.run_texts.Goals as goal

pub returns-in-Ok : goal.returns-in-Ok
returns-in-Ok c =
    gives_texts _ run_app run_form run_has c.in-Ok.ensures refl c.args.words.now c.matches_of.result
    c.matches_of.ensures
