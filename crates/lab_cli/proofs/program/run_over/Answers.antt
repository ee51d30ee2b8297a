use Rattle.lab_cli.proofs.Runs.{some_words}
use Rattle.lab_cli.proofs.program.run_over.Goals as goal

pub returns-clause-ran : goal.returns-clause-ran
returns-clause-ran g c =
    some_words g.F.Files g.K.Sink g.S.Store _ c.run_by_words.result c.args.files.now c.run_by_words.new.files
    c.args.out.now c.run_by_words.new.out c.args.store.now c.run_by_words.new.store c.run_by_words.ensures.ran
