use Rattle.lab_state.specs.Run.{run}
use Rattle.script_laws.proofs.ScriptLemmas.{transcript_begins}
use Rattle.script_laws.proofs.StepLemmas.{LinesBehind}
use Rattle.script_laws.proofs.beginning.longer_scripts_begin_alike.Goals as goal

pub returns : goal.returns
returns c = λ words script text more setting held other kept asked there longer is also whole closed same.
    let behind = c.lines_behind_come_last.ensures in
    let leaves = c.lines_leave_the_script.ensures in
    let facts : LinesBehind = record {
      next = behind.next;
      included = behind.included;
      ran = behind.macro_;
      depth = behind.depth;
      main = leaves.main;
      in_file = leaves.included;
      in_macro = leaves.macro_;
    } in
    transcript_begins facts behind.begun run c.only_what_is_read_matters.ensures.lines held other words script text more
    setting kept asked there longer is also whole closed same
