use Rattle.repl_build.proofs.ConnectionLemmas.{wires_told}
use Rattle.repl_build.proofs.laws.each_wire_is_one_of_the_text.Goals as goal

pub returns : goal.returns
returns c = wires_told
