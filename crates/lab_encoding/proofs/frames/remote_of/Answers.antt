use Rattle.std.proofs.Common.{sym, ◌∙◌}
use Rattle.lab_encoding.proofs.FrameLemmas.{remote_found}
use Rattle.lab_encoding.proofs.frames.remote_of.Goals as goal

pub returns : goal.returns
returns c =
    rw c.new_remote.ensures
    (remote_found c.args.id c.args.len c.args.bytes.now c.told-bytes c.requires.id c.requires.len
    (sym c.are_zero.ensures ∙ c.if-not-are_zero.false))
