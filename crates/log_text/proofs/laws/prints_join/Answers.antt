use Rattle.std.proofs.Common.{◌≡◌, List, [], ◌∷◌, ◌++◌, refl, append_assoc}
use Rattle.log_merge.specs.declared.item.LogItem.{LogItem}
use Rattle.log_merge.specs.declared.names.Names.{Names}
use Rattle.log_text.specs.declared.line.OpenLine.{OpenLine}
use Rattle.log_text.specs.Log.{text, open_lines, opened}
use Rattle.log_text.proofs.laws.prints_join.Goals as goal

text_joins :
    (names : Names) (lines : List OpenLine) (items more : List LogItem) →
    text names lines (items ++ more) ≡ text names lines items ++ text names (open_lines lines items) more
text_joins names lines [] more = refl
text_joins names lines (item ∷ items) more =
    rw (text_joins names (opened lines item) items more, append_assoc) refl

open_joins :
    (lines : List OpenLine) (items more : List LogItem) →
    open_lines lines (items ++ more) ≡ open_lines (open_lines lines items) more
open_joins lines [] more = refl
open_joins lines (item ∷ items) more = open_joins (opened lines item) items more

pub returns-clause-text : goal.returns-clause-text
returns-clause-text c = λ names lines items more. text_joins names lines items more

pub returns-clause-open : goal.returns-clause-open
returns-clause-open c = λ lines items more. open_joins lines items more
