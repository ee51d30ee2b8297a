-- The first two words neither set a variable nor begin a macro.
use Rattle.std.proofs.Common.{◌≡◌, false, map, sym}
use Rattle.resc_read.specs.Line.{is_definition}
use Rattle.resc_read.specs.Table.{word_at}
use Rattle.resc_read.proofs.read.of_words.Goals as goal

pub returns : goal.returns
returns c =
    let words = map (λ word. word.now) c.args.words.now in
    let no : is_definition (word_at words 0) (word_at words 1) ≡ false =
    rw (sym c.word_at.ensures, sym c.word_at-2.ensures, sym c.is_definition.ensures) c.if-is_definition.false in
    rw no c.by_first_words.ensures
