use Rattle.std.proofs.Common.{rules}
use Rattle.lab_gen.specs.Firmware.{head}
use Rattle.lab_gen.proofs.Texts.{head_assembles}
use Rattle.lab_gen.proofs.firmware.head.Goals as goal

pub assembled-requires-clause-no_fault : goal.assembled-requires-clause-no_fault
unfolding head
assembled-requires-clause-no_fault c = head_assembles

pub returns : goal.returns
unfolding head
returns c = search rules
