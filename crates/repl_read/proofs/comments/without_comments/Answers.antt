-- The bytes are a text.
use Rattle.repl_read.specs.declared.comments.Inside.TheVariants.{Nothing}
use Rattle.repl_read.proofs.Utf8Lemmas.{blanked_utf8}
use Rattle.repl_read.proofs.comments.without_comments.Goals as goal

pub unwrap-requires : goal.unwrap-requires
unwrap-requires c =
    let text = blanked_utf8 Nothing c.args.text.now c.utf8.text in
    c.from_utf8.ensures.succeeds (rw (c.in_ok-made.ensures {u = tt}, c.as_bytes.ensures.value) text)
