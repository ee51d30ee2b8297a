-- The word of the fields means the instruction exactly where some word does.
use Rattle.std.proofs.Common.{◌≡◌, ◌∙◌, sym, subst, ℕ, false}
use Rattle.std.specs.Prelude.{Some, IsTrue}
use Rattle.std.proofs.lemmas.Bool.{false≢true}
use Rattle.std.proofs.lemmas.Option.{same_Some}
use Rattle.rv_decode.specs.Means.{means}
use Rattle.rv_asm.proofs.RoundTrip.{encoded-means}
use Rattle.rv_asm.proofs.encoder.is_valid.Goals as goal

pub returns-then-fits : goal.returns-then-fits
returns-then-fits c = (
  λ yes. (c.word_with.result, c.word_with.type_inv, c.is_meant.ensures.0 yes),
  λ valid.
      let encoded =
      encoded-means valid.0 c.args.i.now valid.1 c.rows_differ.ensures.instructions
      c.rows_match_fields.ensures valid.2 in
      let is : c.word_with.result ≡ valid.0 = same_Some _ _ (sym c.word_with.ensures ∙ encoded) in
      let P : ℕ → Type 0 = λ word. means word ≡ Some c.args.i.now in
      c.is_meant.ensures.1 (subst P (sym is) valid.2),
)

pub returns-else-fits : goal.returns-else-fits
returns-else-fits c =
    let f = c.if-fits.ensures {u = tt} in
    let unfit : IsTrue c.fits.result → IsTrue false = λ yes. sym c.if-fits.false ∙ yes in (
      λ yes. absurd (false≢true (unfit yes)),
      λ valid. absurd (false≢true (f.1 (c.valid_fits.ensures c.args.i.now valid))),
    )
