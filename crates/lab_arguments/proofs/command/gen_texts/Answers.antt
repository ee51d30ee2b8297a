use Rattle.std.proofs.Common.{refl}
use Rattle.lab_arguments.specs.Grammar.{gen_form}
use Rattle.lab_arguments.specs.Inner.Commands.{gen_app}
use Rattle.lab_arguments.proofs.CommandLemmas.{gen_has}
use Rattle.lab_arguments.proofs.GivesLemmas.{gives_texts}
use Rattle.lab_arguments.proofs.command.gen_texts.Goals as goal

pub returns-in-Ok : goal.returns-in-Ok
returns-in-Ok c =
    gives_texts _ gen_app gen_form gen_has c.in-Ok.ensures refl c.args.words.now c.matches_of.result
    c.matches_of.ensures
