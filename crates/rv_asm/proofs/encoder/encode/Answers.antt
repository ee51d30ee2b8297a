-- The word of the fields is the only word that means the instruction.
use Rattle.std.proofs.Common.{◌≡◌, ◌∙◌, sym, subst, ℕ}
use Rattle.std.specs.Prelude.{Some}
use Rattle.std.proofs.lemmas.Option.{same_Some}
use Rattle.rv_decode.specs.Means.{means}
use Rattle.rv_asm.proofs.RoundTrip.{encoded-means}
use Rattle.rv_asm.proofs.encoder.encode.Goals as goal

pub word_with-requires : goal.word_with-requires
word_with-requires c = c.valid_fits.ensures c.args.i.now c.requires

pub returns-clause-meaning : goal.returns-clause-meaning
returns-clause-meaning c =
    let encoded =
    encoded-means c.requires.0 c.args.i.now c.requires.1 c.rows_differ.ensures.instructions
    c.rows_match_fields.ensures c.requires.2 in
    let is : c.word_with.result ≡ c.requires.0 = same_Some _ _ (sym c.word_with.ensures ∙ encoded) in
    let P : ℕ → Type 0 = λ word. means word ≡ Some c.args.i.now in
    subst P (sym is) c.requires.2

pub returns-clause-inverse : goal.returns-clause-inverse
returns-clause-inverse c =
    λ word fits is.
    same_Some _ _
    (sym c.word_with.ensures ∙
    encoded-means word c.args.i.now fits c.rows_differ.ensures.instructions c.rows_match_fields.ensures is)
