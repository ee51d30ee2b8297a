-- From clap's answer to ours.
use Rattle.std.proofs.Common.{◌≡◌, ◌∙◌, true, List, [], ◌∷◌, map, Option, Some, None, Result, Ok, Err, refl, ap, subst}
use Rattle.std.specs.Prelude.{String}
use Rattle.std.specs.String.{string_bytes}
use Rattle.std.proofs.lemmas.Str.{IsUtf8-string_bytes}
use Rattle.clap.specs.Words.{App, first_of, found_of, matches_of}
use Rattle.clap.specs.Faults.{fault_of, is_simple_and_free}
use Rattle.clap.specs.declared.parser.matches.ArgMatches.{ArgMatches}
use Rattle.clap.proofs.WalkLemmas.{first_value-rows}
use Rattle.lab_arguments.specs.declared.request.WordsFault.{WordsFault}
use Rattle.lab_arguments.specs.declared.request.WordsFault.TheVariants as fault
use Rattle.lab_arguments.specs.Grammar.{Form, Text, texts_of}
use Rattle.lab_arguments.specs.Inner.Commands.{GivesTexts, TakenBy}
use Rattle.lab_arguments.proofs.RowLemmas.{first_of-texts}
use Rattle.lab_arguments.proofs.AgreeLemmas.{Agrees, AreUtf8}
use Rattle.lab_arguments.proofs.CommandLemmas.{HasForm, takes_form}

pub are_utf8 : {Z : Type 0} (words : List (String Z)) → AreUtf8 (map string_bytes words)
are_utf8 [] = tt
are_utf8 (word ∷ words) = (IsUtf8-string_bytes word, are_utf8 words)

gives_some : (f : Form) (words : List Text) (m : ArgMatches) (a : App) (o : Option (List (Text × Text)))
    → texts_of f words ≡ o → Agrees (fault_of a words) (matches_of a words) o
    → TakenBy a words (Ok m) → GivesTexts f words (Ok m)
gives_some f words m a None e fails taken = absurd (fails taken.0)
gives_some f words m a (Some given) e agrees taken = (
  given,
  e,
  λ name. first_value-rows (found_of m) name ∙ ap (first_of name) (taken.1 ∙ agrees.1) ∙ first_of-texts
      name given,
)

gives_none : (f : Form) (words : List Text) (a : App) (o : Option (List (Text × Text))) → texts_of f words ≡ o
    → Agrees (fault_of a words) (matches_of a words) o
    → (fault_of a words ≡ [] → ⊥) → texts_of f words ≡ None
gives_none f words a None e fails fault = e
gives_none f words a (Some given) e agrees fault = absurd (fault agrees.0)

gives : (a : App) (f : Form) → HasForm a f → (words : List Text) → AreUtf8 words
    → (r : Result ArgMatches WordsFault) → TakenBy a words r → GivesTexts f words r
gives a f has words utf8 (Ok m) taken =
    gives_some f words m a (texts_of f words) refl (takes_form a f has words utf8) taken
gives a f has words utf8 (Err fault.Memory) taken = tt
gives a f has words utf8 (Err (fault.Usage c)) taken =
    (taken.0, gives_none f words a (texts_of f words) refl (takes_form a f has words utf8) taken.1)

-- what a call of `taken` with such a command gives
pub gives_texts : {Z : Type 0} (is a : App) (f : Form) → HasForm a f → is ≡ a → is_simple_and_free a ≡ true
    → (words : List (String Z)) (r : Result ArgMatches WordsFault)
    → (is_simple_and_free is ≡ true → TakenBy is (map string_bytes words) r) → GivesTexts f (map string_bytes words) r
gives_texts is a f has same free words r taken =
    gives a f has (map string_bytes words) (are_utf8 words) r
    (subst (λ x. TakenBy x (map string_bytes words) r) same (taken (ap is_simple_and_free same ∙ free)))
