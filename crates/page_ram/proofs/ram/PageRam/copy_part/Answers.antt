use Rattle.std.proofs.Common.{refl}
use Rattle.page_ram.proofs.DirectoryLemmas.{page-in, stored-paged, stored-bytes, stored-length}
use Rattle.page_ram.proofs.ram.PageRam.copy_part.Goals as goal

pub index_mut-page-requires : goal.index_mut-page-requires
index_mut-page-requires c =
    page-in _ _ _ _ c.self.inside.pages.ok.0 c.self.invariant c.requires.some (rw c.self.view_is c.requires.fits)

pub invariant_of-self-2 : goal.invariant_of-self-2
invariant_of-self-2 c =
    stored-paged _ _ _ _ _ _ _ _ _ c.self.view_is c.self.invariant c.requires.some c.requires.fits c.requires.page
    c.index_mut-page.ensures.value refl c.in_ok-make_present.ensures.ok c.store.ensures.value c.put_part.ensures

pub returns-clause-ok : goal.returns-clause-ok
returns-clause-ok c =
    stored-bytes _ _ _ _ _ _ _ _ _ c.self.view_is c.self.invariant c.requires.some c.requires.fits c.requires.page
    c.index_mut-page.ensures.value refl c.in_ok-make_present.ensures.ok c.store.ensures.value c.put_part.ensures

pub returns-clause-size : goal.returns-clause-size
returns-clause-size c =
    stored-length _ _ _ _ _ _ _ _ _ c.self.view_is c.self.invariant c.requires.some c.requires.fits c.requires.page
    c.index_mut-page.ensures.value refl c.in_ok-make_present.ensures.ok c.store.ensures.value c.put_part.ensures
