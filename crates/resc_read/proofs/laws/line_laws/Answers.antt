use Rattle.std.proofs.Common.{◌∙◌, ap, sym}
use Rattle.resc_read.specs.Line.{command_of}
use Rattle.resc_read.proofs.LineLemmas.{line_words}
use Rattle.resc_read.proofs.WholeLemmas.{put_together}
use Rattle.resc_read.proofs.laws.line_laws.Goals as goal

pub returns-clause-words : goal.returns-clause-words
returns-clause-words c = line_words

pub returns-clause-whole : goal.returns-clause-whole
returns-clause-whole c = put_together

pub returns-clause-blanks : goal.returns-clause-blanks
returns-clause-blanks c = λ a b all first second. ap command_of (line_words a all first ∙ sym (line_words b all second))
