use Rattle.std.proofs.Common.{◌∙◌, refl, sym}
use Rattle.page_ram.proofs.ByteLemmas.{width-positive}
use Rattle.page_ram.proofs.DirectoryLemmas.{page-in, value_at-present, value_at-absent}
use Rattle.page_ram.proofs.ram.PageRam.load_in_page.Goals as goal

pub index-requires : goal.index-requires
index-requires c =
    let some = width-positive _ c.requires.width in
    page-in _ _ _ _ c.self.inside.pages.ok.0 c.self.invariant some (rw c.self.view_is c.requires.fits)

pub returns-in-None-clause-value : goal.returns-in-None-clause-value
returns-in-None-clause-value c =
    let some = width-positive _ c.requires.width in
    sym (value_at-absent _ _ _ _ _ c.self.view_is c.self.invariant some c.requires.fits
    c.requires.page c.index.ensures c.in-None.ensures)

pub returns-in-Some-clause-value : goal.returns-in-Some-clause-value
returns-in-Some-clause-value c =
    let some = width-positive _ c.requires.width in
    c.number_at.ensures.value
    ∙ value_at-present _ _ _ _ _ c.self.view_is c.self.invariant some c.requires.fits
    c.requires.page c.index.ensures _ c.in-Some.ensures _ refl
