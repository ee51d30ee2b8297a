-- The rows of a parse, as names with their texts.
use Rattle.std.proofs.Common.{◌≡◌, ◌∙◌, Bool, true, false, List, [], ◌∷◌, ◌++◌, map, Some, None, refl, ap, sym}
use Rattle.std.specs.Str.{bytes_eq}
use Rattle.std.proofs.lemmas.Bool.{or_parts, true≢false}
use Rattle.std.proofs.lemmas.List.{append-nil, map-append}
use Rattle.clap.specs.Walk.{Row, at_row, first_of, has_row, more_values, with_values, without}
use Rattle.clap.specs.Values.{reading_of}
use Rattle.clap.specs.declared.builder.value_parser.ValueParser.TheVariants as vp
use Rattle.clap.specs.declared.parser.matches.ValueSource.TheVariants.{CommandLine}
use Rattle.clap.proofs.WalkLemmas.{list_any-map}
use Rattle.lab_arguments.specs.Grammar.{Text, is_given, text_of}

abbrev pub row_of_text : Text × Text → Row
row_of_text p = record {
  id = p.0;
  values = p.1 ∷ [];
  count = None;
  source = Some CommandLine;
  reading = reading_of vp.String;
}

abbrev pub rows_of_texts : List (Text × Text) → List Row
rows_of_texts given = map row_of_text given

pub has_row-given : (name : Text) (given : List (Text × Text))
    → is_given name given ≡ has_row name (rows_of_texts given)
has_row-given name given = list_any-map (λ r. bytes_eq r.id name) row_of_text given

pub at_row_new : (id : Text) (change : Row → List Row) (missing rows : List Row) → has_row id rows ≡ false
    → at_row id change missing rows ≡ rows ++ missing
at_row_new id change missing [] e = refl
at_row_new id change missing (r ∷ rs) e =
    go (at_row_new id change missing rs (or_parts _ _ e).1) (bytes_eq r.id id) refl
  where
    go : at_row id change missing rs ≡ rs ++ missing → (b : Bool) → bytes_eq r.id id ≡ b
        → at_row id change missing (r ∷ rs) ≡ r ∷ (rs ++ missing)
    go ih true is = absurd (true≢false (sym is ∙ (or_parts (bytes_eq r.id id) _ e).0))
    go ih false is = rw is (ap (λ xs. r ∷ xs) ih)

pub used_new : (name text : Text) (given : List (Text × Text)) → is_given name given ≡ false
    → with_values name (reading_of vp.String) CommandLine (text ∷ []) (without name (rows_of_texts given))
    ≡ rows_of_texts (given ++ (name, text) ∷ [])
used_new name text given new =
    let rows = rows_of_texts given in
    let absent : has_row name rows ≡ false = sym (has_row-given name given) ∙ new in
    let same : without name rows ≡ rows = at_row_new name (λ _. []) [] rows absent ∙ append-nil rows in
    ap (with_values name (reading_of vp.String) CommandLine (text ∷ [])) same
    ∙ at_row_new name (more_values CommandLine (text ∷ [])) (row_of_text (name, text) ∷ []) rows absent
    ∙ sym (map-append row_of_text given ((name, text) ∷ []))

pub first_of-texts : (name : Text) (given : List (Text × Text))
    → first_of name (rows_of_texts given) ≡ text_of name given
first_of-texts name [] = refl
first_of-texts name (p ∷ given) = go (first_of-texts name given) (bytes_eq p.0 name) refl
  where
    go : first_of name (rows_of_texts given) ≡ text_of name given → (b : Bool) → bytes_eq p.0 name ≡ b
        → first_of name (rows_of_texts (p ∷ given)) ≡ text_of name (p ∷ given)
    go ih true is = rw is refl
    go ih false is = rw is ih
