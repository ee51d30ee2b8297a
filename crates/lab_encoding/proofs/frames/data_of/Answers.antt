use Rattle.std.proofs.Common.{sym, ◌∙◌}
use Rattle.lab_encoding.proofs.FrameLemmas.{data_found}
use Rattle.lab_encoding.proofs.frames.data_of.Goals as goal

pub returns : goal.returns
returns c =
    let none = rw (c.split_at.ensures.back, c.from.ensures) at (sym c.are_zero.ensures ∙ c.if-not-are_zero.false) in
    rw (c.new.ensures, c.split_at.ensures.front, c.from.ensures)
    (data_found c.args.id c.args.len c.args.bytes.now c.told-bytes c.requires.id c.requires.len none)
