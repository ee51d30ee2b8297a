use Rattle.lab_arguments.proofs.SpellingLemmas.{check_reads, gen_reads, run_reads}
use Rattle.lab_arguments.proofs.laws.lines_are_read.Goals as goal

pub returns : goal.returns
returns c = record { of_run = run_reads; of_check = check_reads; of_gen = gen_reads }
