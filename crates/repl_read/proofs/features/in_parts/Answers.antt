-- What `split` yields, tested.
use Rattle.std.proofs.Common.{rules}
use borrow.Author.Tests.{tests}
use Rattle.std.proofs.lemmas.Iterator.Search.{any_from_yields_List}
use Rattle.std.proofs.lemmas.Iterator.Splits.{YieldsList-from_slice_split}
use Rattle.repl_read.specs.Cuts.{is_mark}
use Rattle.repl_read.specs.Features.{in_item}
use Rattle.repl_read.specs.declared.cuts.Mark.TheVariants.{Semicolon}
use Rattle.repl_read.proofs.features.in_parts.Goals as goal

pub returns : goal.returns
returns c =
    any_from_yields_List in_item _ _ _ c.any.ensures.ran
    (YieldsList-from_slice_split _ (is_mark Semicolon) _ c.split.ensures.rest c.split.ensures.done
    c.split.ensures.closure (λ x b q k. search (rules, tests)))
    (λ x b q k. search (rules, tests))
