use Rattle.lab_encoding.specs.Inner.Laws.{one}
use Rattle.lab_snap.specs.Lab.{lab_lawful}
use Rattle.lab_snap.proofs.lab.one_lab_spelling.Goals as goal

pub returns : goal.returns
returns c = one lab_lawful
