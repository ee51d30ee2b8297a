use Rattle.lab_encoding.specs.Inner.Laws.{one}
use Rattle.lab_snap.specs.Inner.MemoryLaws.{memory_lawful}
use Rattle.lab_snap.proofs.memory.one_memory_spelling.Goals as goal

pub returns : goal.returns
returns c = one (memory_lawful c.args.pages c.requires)
