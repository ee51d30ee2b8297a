-- Our commands and what they give, in the words of clap's contracts.
use Rattle.std.specs.Prelude.{◌≡◌, true, ℕ, List, [], Option, Some, None, Result, Ok, Err, codes, option_map}
use Rattle.std.specs.Borrow.{Bor}
use Rattle.clap.specs.Words.{App, Rule, first_value, found_of, matches_of, new_app, new_rule, rows_of, with_rule}
use Rattle.clap.specs.Faults.{fault_of}
use Rattle.clap.specs.declared.parser.matches.ArgMatches.{ArgMatches}
use Rattle.lab_arguments.specs.declared.request.UsageCause.TheVariants.{Words}
use Rattle.lab_arguments.specs.declared.request.WordsFault.{WordsFault}
use Rattle.lab_arguments.specs.declared.request.WordsFault.TheVariants.{Usage, Memory}
use Rattle.lab_arguments.specs.Grammar.{Form, Text, text_of, texts_of}

abbrev pub text_behind : Option (Bor (List ℕ)) → Option Text
text_behind = option_map (λ text. text.now)

-- ---- the commands

-- a plain word that has to be there
abbrev pub wanted : Text → Rule
wanted name = record (new_rule name) { required = true }

abbrev pub optional : Text → Rule
optional name = record (new_rule name) { long = Some name }

-- a command without `--help`, whose words do not begin with a program's name
abbrev pub bare : Text → App
bare name = record (new_app name) {
  top = record (new_app name).top { no_binary_name = true; disable_help_flag = true };
}

abbrev pub check_app : App
check_app = with_rule (bare (codes "check")) (wanted (codes "SCRIPT"))

abbrev pub run_app : App
run_app =
    with_rule (with_rule (with_rule (bare (codes "run")) (optional (codes "workers"))) (optional (codes "until")))
    (wanted (codes "SCRIPT"))

abbrev pub gen_app : App
gen_app =
    with_rule (with_rule (with_rule (bare (codes "gen")) (optional (codes "workers"))) (wanted (codes "SEED")))
    (wanted (codes "BOARDS"))

-- ---- what they give

-- the words are taken exactly where clap's rules find no fault
abbrev pub TakenBy : App → List Text → Result ArgMatches WordsFault → Type 0
TakenBy app words (Ok matches) = (fault_of app words ≡ []) × (rows_of (found_of matches) ≡ matches_of app words)
TakenBy app words (Err Memory) = Unit
TakenBy app words (Err (Usage cause)) = (cause ≡ Words) × (fault_of app words ≡ [] → ⊥)

-- each name has the text that the words give it
abbrev pub GivesTexts : Form → List Text → Result ArgMatches WordsFault → Type 0
GivesTexts form words (Ok matches) = (given : List (Text × Text)) × (texts_of form words ≡ Some given)
    × ((name : Text) → first_value (found_of matches) name ≡ text_of name given)
GivesTexts form words (Err Memory) = Unit
GivesTexts form words (Err (Usage cause)) = (cause ≡ Words) × (texts_of form words ≡ None)
