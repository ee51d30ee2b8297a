-- A word that is near lies in its memory, in one page.
use Rattle.std.proofs.Common.{inr, refl, ap, sym, ◌∙◌}
use Rattle.std.specs.Prelude.{Some}
use Rattle.board_space.specs.Words.{word_at}
use Rattle.board_space.proofs.space.Space.fetch_aligned.Goals as goal

pub load_memory-requires : goal.load_memory-requires
load_memory-requires g c =
    let here = c.in-Some.ensures 4 (inr (inr refl), c.requires) in
    record { width = inr (inr refl); part = here.part; lies = here.lies; page = here.page }

pub returns-in-Some-clause-value : goal.returns-in-Some-clause-value
returns-in-Some-clause-value g c =
    let here = c.in-Some.ensures 4 (inr (inr refl), c.requires) in
    ap Some c.load_memory.ensures.value ∙ ap (word_at c.args.self.now) (sym here.target)
