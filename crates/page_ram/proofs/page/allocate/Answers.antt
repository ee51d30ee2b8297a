use Rattle.std.proofs.Common.{Some, sym, ap, ◌∙◌}
use Rattle.page_ram.proofs.DirectoryLemmas.{zero_page-is}
use Rattle.page_ram.proofs.page.allocate.Goals as goal

pub returns-clause-ok : goal.returns-clause-ok
returns-clause-ok c = c.make.ensures ∙ ap Some (c.in_ok-zeros.ensures.ok ∙ sym zero_page-is)
