-- A half-word that is near lies in its memory, in one page.
use Rattle.std.proofs.Common.{inl, inr, refl}
use Rattle.board_space.proofs.space.Space.half.Goals as goal

pub load_memory-requires : goal.load_memory-requires
load_memory-requires g c =
    let here = c.in-Some.ensures 2 (inr (inl refl), c.requires) in
    record { width = inr (inl refl); part = here.part; lies = here.lies; page = here.page }
