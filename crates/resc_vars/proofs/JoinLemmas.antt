-- A text and more lines behind it.
use Rattle.std.proofs.Common.{◌≡◌, inl, inr, ◌∷◌, ◌++◌, ◌∙◌, ◌+◌, ℕ, suc, List, [], length, map, refl, ap, arith}
use Rattle.std.proofs.Common.{add-zero}
use Rattle.std.specs.Str.Lines.{lines}
use Rattle.std.proofs.lemmas.List.{map-append}
use Rattle.resc_vars.specs.declared.item.Line.{Line}
use Rattle.resc_vars.specs.Behind.{ClosesMacros, EndsLine, items_behind, with_behind}
use Rattle.resc_vars.specs.Bodies.{begun, source_of}
use Rattle.resc_vars.specs.Coming.{texts, thing, things_in}
use Rattle.resc_vars.specs.Items.{items}
use Rattle.resc_vars.specs.Numbered.{numbered}
use Rattle.resc_vars.proofs.ClosedLemmas.{items_closed}
use Rattle.resc_vars.proofs.TextLemmas.{lines_more}
use Rattle.resc_vars.proofs.ThingLemmas.{alike_texts, items_one}

number_sum : (n m : ℕ) → n + 1 + m ≡ n + suc m
number_sum n m = omega arith

numbered_more : (n : ℕ) (all more : List (List ℕ)) →
    numbered n (all ++ more) ≡ numbered n all ++ numbered (n + length all) more
numbered_more n [] more = rw (add-zero n) refl
numbered_more n (text ∷ all) more =
    ap (λ (rest : List Line). record { number = n; text = text } ∷ rest)
    (numbered_more (n + 1) all more
    ∙ ap (λ m. numbered (n + 1) all ++ numbered m more) (number_sum n (length all)))

lines_join : (text more : List ℕ) → EndsLine text → lines (text ++ more) ≡ lines text ++ lines more
lines_join text more (inl empty) = rw empty refl
lines_join text more (inr (front, is)) = rw is (lines_more front more)

-- what stands in the lines of the longer text
items_join : (text more : List ℕ) → EndsLine text → ClosesMacros text →
    items 0 (numbered 1 (lines (text ++ more))) ≡ items 0 (numbered 1 (lines text)) ++ items_behind text more
items_join text more whole closed =
    ap (λ all. items 0 (numbered 1 all)) (lines_join text more whole)
    ∙ ap (items 0) (numbered_more 1 (lines text) (lines more))
    ∙ items_closed 0 (numbered 1 (lines text)) (numbered (1 + length (lines text)) (lines more)) (omega arith) closed

pub begun_join : (file text more : List ℕ) → EndsLine text → ClosesMacros text →
    begun (source_of file (text ++ more)) ≡ with_behind (items_behind text more) (begun (source_of file text))
begun_join file text more whole closed = rw (items_join text more whole closed) refl

-- what stands in lines does not rest on their numbers
renumbered : (n m : ℕ) (all : List (List ℕ)) → texts (numbered n all) ≡ texts (numbered m all)
renumbered n m [] = refl
renumbered n m (text ∷ all) = ap (λ more. text ∷ more) (renumbered (n + 1) (m + 1) all)

pub things_join : (text more : List ℕ) → EndsLine text → ClosesMacros text →
    things_in (text ++ more) ≡ things_in text ++ things_in more
things_join text more whole closed =
    let first = items 0 (numbered 1 (lines text)) in
    let behind = numbered (1 + length (lines text)) (lines more) in
    let same = alike_texts (numbered 1 (lines more)) behind (renumbered (1 + length (lines text)) 1 (lines more)) in
    ap (map thing) (items_join text more whole closed)
    ∙ map-append thing first (items 0 behind)
    ∙ ap (λ all. map thing first ++ all) (items_one 0 (numbered 1 (lines more)) behind same)
