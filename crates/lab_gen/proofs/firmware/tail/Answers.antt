use Rattle.std.proofs.Common.{rules}
use Rattle.lab_gen.specs.Firmware.{tail}
use Rattle.lab_gen.proofs.Texts.{tail_assembles}
use Rattle.lab_gen.proofs.firmware.tail.Goals as goal

pub assembled-requires-clause-no_fault : goal.assembled-requires-clause-no_fault
unfolding tail
assembled-requires-clause-no_fault c = tail_assembles

pub returns : goal.returns
unfolding tail
returns c = search rules
