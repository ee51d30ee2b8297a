use Rattle.page_ram.proofs.ByteLemmas.{width-positive, length-little_endian}
use Rattle.page_ram.proofs.DirectoryLemmas.{page-in, stored-paged, stored-bytes, stored-length}
use Rattle.page_ram.proofs.ram.PageRam.store.Goals as goal

pub index_mut-page-requires : goal.index_mut-page-requires
index_mut-page-requires c =
    let some = width-positive _ c.requires.width in
    page-in _ _ _ _ c.self.inside.pages.ok.0 c.self.invariant some (rw c.self.view_is c.requires.fits)

pub invariant_of-self-2 : goal.invariant_of-self-2
invariant_of-self-2 c =
    let some = width-positive _ c.requires.width in
    stored-paged _ _ _ _ _ _ _ _ _ c.self.view_is c.self.invariant some c.requires.fits c.requires.page
    c.index_mut-page.ensures.value (length-little_endian _ _) c.in_ok-make_present.ensures.ok c.store.ensures.value
    c.put_number.ensures

pub returns-clause-ok : goal.returns-clause-ok
returns-clause-ok c =
    let some = width-positive _ c.requires.width in
    stored-bytes _ _ _ _ _ _ _ _ _ c.self.view_is c.self.invariant some c.requires.fits c.requires.page
    c.index_mut-page.ensures.value (length-little_endian _ _) c.in_ok-make_present.ensures.ok c.store.ensures.value
    c.put_number.ensures

pub returns-clause-size : goal.returns-clause-size
returns-clause-size c =
    let some = width-positive _ c.requires.width in
    stored-length _ _ _ _ _ _ _ _ _ c.self.view_is c.self.invariant some c.requires.fits c.requires.page
    c.index_mut-page.ensures.value (length-little_endian _ _) c.in_ok-make_present.ensures.ok c.store.ensures.value
    c.put_number.ensures
