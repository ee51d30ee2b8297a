use Rattle.log_laws.proofs.JoinLemmas.{runs_joined}
use Rattle.log_laws.proofs.joining.runs_of_a_script_join.Goals as goal

pub returns : goal.returns
returns c =
    runs_joined c.runs_join.ensures c.runs_keep_names.ensures c.prints_join.ensures.text
    c.prints_join.ensures.open
