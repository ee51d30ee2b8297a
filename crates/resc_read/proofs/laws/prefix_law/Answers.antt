use Rattle.std.proofs.Common.{◌≡◌, ◌++◌, ◌∷◌, ◌∙◌, ℕ, List, [], false, Ok, codes, refl, ap}
use Rattle.resc_read.specs.declared.command.Command.TheVariants as commands
use Rattle.resc_read.specs.Sorts.{has_quote}
use Rattle.resc_read.specs.Words.{words}
use Rattle.resc_read.specs.Line.{command_of}
use Rattle.resc_read.specs.Table.{by_all_rows, by_word_rows}
use Rattle.resc_read.proofs.LineLemmas.{line_words}
use Rattle.resc_read.proofs.laws.prefix_law.Goals as goal

-- the words of the line are a command of its own row
shown :
    (dev : List ℕ) → has_quote dev ≡ false →
    command_of (codes "showAnalyzer" ∷ (codes "sysbus." ++ dev) ∷ []) ≡ Ok (commands.Show (codes "sysbus." ++ dev))
unfolding by_all_rows by_word_rows
shown dev none = rw none refl

pub returns : goal.returns
returns c = λ line dev none is.
    let all : words line ≡ codes "showAnalyzer" ∷ (codes "sysbus." ++ dev) ∷ [] = line_words line _ is in
    ap command_of all ∙ shown dev none
