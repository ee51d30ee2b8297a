use Rattle.std.proofs.Common.{refl, sym, arith}
use Rattle.page_ram.proofs.DirectoryLemmas.{page-in, value_at-absent, byte-present}
use Rattle.page_ram.proofs.ram.PageRam.byte.Goals as goal

pub index-requires : goal.index-requires
index-requires c =
    page-in _ _ 1 _ c.self.inside.pages.ok.0 c.self.invariant (omega arith)
    (rw c.self.view_is (omega (arith, c.requires)))

pub returns-in-None : goal.returns-in-None
returns-in-None c =
    sym (value_at-absent _ _ _ 1 _ c.self.view_is c.self.invariant (omega arith) (omega (arith, c.requires))
    (omega arith) c.index.ensures c.in-None.ensures)

pub returns-in-Some : goal.returns-in-Some
returns-in-Some c =
    byte-present _ _ _ 1 _ c.self.view_is c.self.invariant (omega arith) (omega (arith, c.requires)) (omega arith)
    c.index.ensures _ c.in-Some.ensures refl
