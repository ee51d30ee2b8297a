use Rattle.std.proofs.Common.{sym, ap, ◌∙◌}
use Rattle.page_ram.specs.Inner.Directory.{page_bytes}
use Rattle.page_ram.specs.Pages.{is_zero}
use Rattle.page_ram.proofs.DirectoryLemmas.{page-there, whole-page, absent-is_zero}
use Rattle.page_ram.proofs.ram.PageRam.used_page.Goals as goal

pub index-requires : goal.index-requires
index-requires c = page-there _ _ _ _ c.self.inside.pages.ok.0 c.self.view_is c.self.invariant c.requires

pub returns-in-None-clause-zero : goal.returns-in-None-clause-zero
returns-in-None-clause-zero c =
    absent-is_zero _ _ _ _ c.self.view_is c.self.invariant c.requires c.index.ensures c.in-None.ensures

pub returns-then-is_zero-clause-zero : goal.returns-then-is_zero-clause-zero
returns-then-is_zero-clause-zero c =
    let page = whole-page _ _ _ _ c.self.view_is c.self.invariant c.requires c.index.ensures in
    ap is_zero (page ∙ ap page_bytes c.in-Some.ensures) ∙ sym c.is_zero.ensures ∙ c.if-is_zero.true

pub returns-else-is_zero-clause-page : goal.returns-else-is_zero-clause-page
returns-else-is_zero-clause-page c =
    let page = whole-page _ _ _ _ c.self.view_is c.self.invariant c.requires c.index.ensures in
    sym (page ∙ ap page_bytes c.in-Some.ensures)
