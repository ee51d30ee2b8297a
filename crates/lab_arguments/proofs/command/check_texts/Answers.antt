use Rattle.std.proofs.Common.{refl}
use Rattle.lab_arguments.specs.Grammar.{check_form}
use Rattle.lab_arguments.specs.Inner.Commands.{check_app}
use Rattle.lab_arguments.proofs.CommandLemmas.{check_has}
use Rattle.lab_arguments.proofs.GivesLemmas.{gives_texts}
use Rattle.lab_arguments.proofs.command.check_texts.Goals as goal

pub returns-in-Ok : goal.returns-in-Ok
returns-in-Ok c =
    gives_texts _ check_app check_form check_has c.in-Ok.ensures refl c.args.words.now c.matches_of.result
    c.matches_of.ensures
