-- A source that gives no more than the limit has been read whole.
use Rattle.std.proofs.Common.{rules}
use Rattle.lab_io.proofs.ReadLemmas.{read_is_whole}
use Rattle.lab_io.proofs.disk_files.read_whole.Goals as goal

pub returns-in-Ok-clause-whole : goal.returns-in-Ok-clause-whole
returns-in-Ok-clause-whole g c =
    let given = rw (c.take.ensures.limit, c.take.ensures.inner, c.requires.empty) at c.in-Ok.ensures.bytes in
    λ _. read_is_whole (g.S.Read.remaining c.args.source) c.args.limit c.read_to_end.new.buf.items given (search rules)
