use Rattle.lab_snap.proofs.Fronts.{found, only}
use Rattle.lab_snap.specs.Inner.MemoryLaws.{memory_lawful}
use Rattle.lab_snap.proofs.memory.decode_memory.Goals as goal

pub returns-clause-found : goal.returns-clause-found
returns-clause-found c =
    found (memory_lawful c.args.pages c.requires.few)
    c.args.reader.now c.decode_as_part.new.reader c.decode_as_part.result
    c.decode_as_part.ensures.reads

pub returns-clause-only : goal.returns-clause-only
returns-clause-only c =
    only (memory_lawful c.args.pages c.requires.few)
    c.args.reader.now c.decode_as_part.new.reader c.decode_as_part.result
    c.decode_as_part.ensures.reads
