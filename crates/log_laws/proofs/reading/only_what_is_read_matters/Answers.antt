use Rattle.std.proofs.lemmas.List.Elements.{recursion_from_All}
use Rattle.lab_state.specs.Run.{run}
use Rattle.log_laws.proofs.AlikeLemmas.{transcripts_alike}
use Rattle.log_laws.proofs.FileLemmas.{begun_same}
use Rattle.log_laws.proofs.reading.only_what_is_read_matters.Goals as goal

pub returns-clause-whole : goal.returns-clause-whole
returns-clause-whole c = λ words held other kept stored reads uses.
    transcripts_alike held other run words kept stored (recursion_from_All _ _ reads) (recursion_from_All _ _ uses)

pub returns-clause-lines : goal.returns-clause-lines
returns-clause-lines c = λ script text setting held other kept same.
    begun_same run held other kept script text setting (recursion_from_All _ _ same)
