use Rattle.std.proofs.Common.{ap, length}
use Rattle.page_ram.proofs.ByteLemmas.{length-zeros}
use Rattle.page_ram.proofs.DirectoryLemmas.{page-in, slice_set-same, absent-zeroed, held-is}
use Rattle.page_ram.proofs.DirectoryLemmas.{stored-paged, stored-bytes, stored-length}
use Rattle.page_ram.proofs.ram.PageRam.zero_part.Goals as goal
use Rattle.page_ram.proofs.ram.PageRam.zero_part.Goals.{in-None, in-Some}

pub index_mut-page-requires : goal.index_mut-page-requires
index_mut-page-requires c =
    page-in _ _ _ _ c.self.inside.pages.ok.0 c.self.invariant c.requires.some (rw c.self.view_is c.requires.fits)

pub invariant_of-self : goal.invariant_of-self
invariant_of-self c =
    elim c.match-load.branch [
      | in-None w ↦ rw (w.self-inside-is, slice_set-same _ _ _ c.index_mut-page.ensures.value) c.self.invariant
      | in-Some w ↦ rw w.self-inside-is
          (stored-paged _ _ _ _ _ _ _ _ _ c.self.view_is c.self.invariant c.requires.some c.requires.fits
          c.requires.page
          c.index_mut-page.ensures.value (length-zeros _) (held-is _ _ w.in-Some.ensures) w.store.ensures.value
          w.put_zeros.ensures)
    ]

pub returns-clause-value : goal.returns-clause-value
returns-clause-value c =
    elim c.match-load.branch [
      | in-None w ↦ rw (w.self-inside-is, slice_set-same _ _ _ c.index_mut-page.ensures.value)
          (absent-zeroed _ _ _ _ _ c.self.view_is c.self.invariant c.requires.some c.requires.fits c.requires.page
          c.index_mut-page.ensures.value w.in-None.ensures)
      | in-Some w ↦ rw w.self-inside-is
          (stored-bytes _ _ _ _ _ _ _ _ _ c.self.view_is c.self.invariant c.requires.some c.requires.fits
          c.requires.page
          c.index_mut-page.ensures.value (length-zeros _) (held-is _ _ w.in-Some.ensures) w.store.ensures.value
          w.put_zeros.ensures)
    ]

pub returns-clause-size : goal.returns-clause-size
returns-clause-size c =
    elim c.match-load.branch [
      | in-None w ↦ rw (w.self-inside-is, slice_set-same _ _ _ c.index_mut-page.ensures.value)
          (ap length c.self.view_is)
      | in-Some w ↦ rw w.self-inside-is
          (stored-length _ _ _ _ _ _ _ _ _ c.self.view_is c.self.invariant c.requires.some c.requires.fits
          c.requires.page
          c.index_mut-page.ensures.value (length-zeros _) (held-is _ _ w.in-Some.ensures) w.store.ensures.value
          w.put_zeros.ensures)
    ]
