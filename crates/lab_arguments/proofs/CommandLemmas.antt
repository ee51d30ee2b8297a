-- What clap says of our three commands is what our reading says.
use Rattle.std.proofs.Common.{ℕ, ◌≡◌, ◌∙◌, ◌&&◌, ◌||◌, Bool, true, false, not, List, [], ◌∷◌, map, Option, Some, None}
use Rattle.std.proofs.Common.{refl, ap, ap₂, sym, subst, fold, cond}
use Rattle.std.specs.Prelude.{codes, option_and_then}
use Rattle.std.specs.Str.{bytes_eq}
use Rattle.std.proofs.lemmas.Bool.{or_right, true≢false}
use Rattle.std.proofs.lemmas.Slice.Eq.{bytes_eq-Decides}
use Rattle.clap.specs.Walk.{Row, Rule, arg_by_id, arg_by_long, arg_by_short, has_row, nothing_held, rows_after}
use Rattle.clap.specs.Walk.{settled, walk_from}
use Rattle.clap.specs.Walk.{Walk, with_default}
use Rattle.clap.specs.Simple.{App, Shape, argument_words, built, label_of, matches_of}
use Rattle.clap.specs.Takes.{is_given as row_given}
use Rattle.clap.specs.Kinds.{Kinds, or_else}
use Rattle.clap.specs.Faults.{built_fault, check_fault, default_fault, defaults_fault, fault_of, given_default_fault}
use Rattle.clap.specs.Faults.{settle_fault, walk_fault}
use Rattle.clap.specs.declared.error.kind.ErrorKind.TheVariants as kind
use Rattle.clap.proofs.FaultLemmas.{leaf_fault}
use Rattle.lab_arguments.specs.Grammar.{Form, Text, check_form, gen_form, is_among, is_complete, is_given, run_form}
use Rattle.lab_arguments.specs.Grammar.{start_of, texts_of}
use Rattle.lab_arguments.specs.Inner.Commands.{check_app, gen_app, run_app}
use Rattle.lab_arguments.proofs.RowLemmas.{rows_of_texts}
use Rattle.lab_arguments.proofs.Standing.{Fits, PlainAt, Stands, option_rule, plain_rule}
use Rattle.lab_arguments.proofs.TurnLemmas.{left_fails, some_kind}
use Rattle.lab_arguments.proofs.AgreeLemmas.{Agrees, AreUtf8, agree, end_walk, grouped, rest_fault, rest_rows}

abbrev pub NoDefaults : List Rule → Type 0
NoDefaults [] = Unit
NoDefaults (r ∷ rules) = (r.defaults ≡ []) × NoDefaults rules

-- a command of clap's takes words of this form
pub record HasForm (a : App) (f : Form) : Type 0 where
  pub fits : Fits (built a).top f
  pub leaf : (built a).subs ≡ []
  pub all_words : a.top.no_binary_name ≡ true
  pub no_defaults : NoDefaults (built a).top.rules
  pub wants : (given : List (Text × Text)) → check_fault (built a).top (rows_of_texts given) false
      ≡ cond (is_complete f given) [] (kind.MissingRequiredArgument ∷ [])

-- ---- the options in a list of rules

abbrev pub options_then : List Text → List Rule → List Rule
options_then [] more = more
options_then (name ∷ names) more = option_rule name ∷ options_then names more

-- a look-up that goes by the names of options
module _ (look_up : List Rule → Text → Option Rule)
    (finds : (first name : Text) (rules : List Rule) → bytes_eq first name ≡ true
    → look_up (option_rule first ∷ rules) name ≡ Some (option_rule first))
    (passes : (first name : Text) (rules : List Rule) → bytes_eq first name ≡ false
    → look_up (option_rule first ∷ rules) name ≡ look_up rules name) (more : List Rule) (name : Text) where
  finds_known : (names : List Text) → is_among name names ≡ true
      → look_up (options_then names more) name ≡ Some (option_rule name)
  finds_known [] known = absurd (true≢false (sym known))
  finds_known (first ∷ names) known = go (bytes_eq first name) refl (finds_known names)
    where
      go : (b : Bool) → bytes_eq first name ≡ b
          → (is_among name names ≡ true → look_up (options_then names more) name ≡ Some (option_rule name))
          → look_up (options_then (first ∷ names) more) name ≡ Some (option_rule name)
      go true same later =
          finds first name _ same ∙ ap (λ n. Some (option_rule n)) ((bytes_eq-Decides first name).0 same)
      go false other later = passes first name _ other ∙ later (rw other at known)

  finds_none : (names : List Text) → look_up more name ≡ None → is_among name names ≡ false
      → look_up (options_then names more) name ≡ None
  finds_none [] none unknown = none
  finds_none (first ∷ names) none unknown = go (bytes_eq first name) refl (finds_none names none)
    where
      go : (b : Bool) → bytes_eq first name ≡ b
          → (is_among name names ≡ false → look_up (options_then names more) name ≡ None)
          → look_up (options_then (first ∷ names) more) name ≡ None
      go true same later = absurd (true≢false (sym (ap (λ b. b || is_among name names) same) ∙ unknown))
      go false other later = passes first name _ other ∙ later (rw other at unknown)

-- a command with these options, and no others
fits_of : (f : Form) (more : List Rule) (s : Shape) → s.rules ≡ options_then f.option_names more
    → s.args_override_self ≡ false → ((x : ℕ) → arg_by_short s.rules x ≡ None)
    → ((name : Text) → arg_by_long more name ≡ None) → PlainAt s.rules 1 f.plain_names → Fits s f
fits_of f more s rules once no_short none positions = record {
  once = once;
  no_short = no_short;
  known = λ name known. ap (λ rs. arg_by_long rs name) rules ∙ finds_known arg_by_long
      (λ first n rest same. rw same refl) (λ first n rest other. rw other refl) more name f.option_names known;
  known_id = λ name known. ap (λ rs. arg_by_id rs name) rules ∙ finds_known arg_by_id
      (λ first n rest same. rw same refl) (λ first n rest other. rw other refl) more name f.option_names known;
  unknown = λ name unknown. ap (λ rs. arg_by_long rs name) rules ∙ finds_none arg_by_long
      (λ first n rest same. rw same refl) (λ first n rest other. rw other refl) more name f.option_names (none name)
      unknown;
  positions = positions;
}

-- ---- what is wanted is given

find_given : (name : Text) (given : List (Text × Text)) → row_given name (rows_of_texts given) ≡ is_given name given
find_given name [] = refl
find_given name (p ∷ given) = go (bytes_eq p.0 name) refl (find_given name given)
  where
    go : (b : Bool) → bytes_eq p.0 name ≡ b → row_given name (rows_of_texts given) ≡ is_given name given
        → row_given name (rows_of_texts (p ∷ given)) ≡ is_given name (p ∷ given)
    go true same later = rw same refl
    go false other later = rw other later

one_wanted : (a : Bool)
    → cond (not a || false) (kind.MissingRequiredArgument ∷ []) []
    ≡ cond (a && true) [] (kind.MissingRequiredArgument ∷ [])
one_wanted true = refl
one_wanted false = refl

two_wanted : (a b : Bool)
    → cond (not a || (not b || false)) (kind.MissingRequiredArgument ∷ []) []
    ≡ cond (a && (b && true)) [] (kind.MissingRequiredArgument ∷ [])
two_wanted true true = refl
two_wanted true false = refl
two_wanted false b = refl

-- ---- the three commands

abbrev script : List Rule
script = plain_rule (codes "SCRIPT") 1 ∷ []

abbrev seed_and_boards : List Rule
seed_and_boards = plain_rule (codes "SEED") 1 ∷ plain_rule (codes "BOARDS") 2 ∷ []

pub check_has : HasForm check_app check_form
check_has = record {
  fits = fits_of check_form script (built check_app).top refl refl (λ x. refl) (λ name. refl) (refl, refl, refl);
  leaf = refl;
  all_words = refl;
  no_defaults = (refl, tt);
  wants = λ given. rw (← find_given (codes "SCRIPT") given)
      (one_wanted (row_given (codes "SCRIPT") (rows_of_texts given)));
}

pub run_has : HasForm run_app run_form
run_has = record {
  fits = fits_of run_form script (built run_app).top refl refl (λ x. refl) (λ name. refl) (refl, refl, refl);
  leaf = refl;
  all_words = refl;
  no_defaults = (refl, (refl, (refl, tt)));
  wants = λ given. rw (← find_given (codes "SCRIPT") given)
      (one_wanted (row_given (codes "SCRIPT") (rows_of_texts given)));
}

pub gen_has : HasForm gen_app gen_form
gen_has = record {
  fits = fits_of gen_form seed_and_boards (built gen_app).top refl refl (λ x. refl) (λ name. refl)
      (refl, refl, (refl, refl, refl));
  leaf = refl;
  all_words = refl;
  no_defaults = (refl, (refl, (refl, tt)));
  wants = λ given. rw (← find_given (codes "SEED") given, ← find_given (codes "BOARDS") given)
      (two_wanted (row_given (codes "SEED") (rows_of_texts given)) (row_given (codes "BOARDS") (rows_of_texts given)));
}

-- ---- no defaults

either_way : {X : Type 0} (b : Bool) (x : X) → cond b x x ≡ x
either_way true x = refl
either_way false x = refl

no_default_row : (r : Rule) (rows : List Row) → r.defaults ≡ [] → with_default rows r ≡ rows
no_default_row r rows none = rw none (either_way (has_row r.id rows) rows)

no_default_rows : (rules : List Rule) (rows : List Row) → NoDefaults rules → fold with_default rows rules ≡ rows
no_default_rows [] rows none = refl
no_default_rows (r ∷ rules) rows none = rw (no_default_row r rows none.0) (no_default_rows rules rows none.1)

no_default_fault : (r : Rule) (rows : List Row) → r.defaults ≡ [] → default_fault rows r ≡ []
no_default_fault r rows none =
    rw none (ap (λ b. cond b [] (given_default_fault r [])) (or_right (has_row r.id rows) true refl))

no_default_faults : (rules : List Rule) (rows : List Row) → NoDefaults rules → defaults_fault rows rules ≡ []
unfolding defaults_fault
no_default_faults [] rows none = refl
no_default_faults (r ∷ rules) rows none =
    rw (no_default_fault r rows none.0, no_default_row r rows none.0) (no_default_faults rules rows none.1)

-- ---- all the words of a command

abbrev first_walk : Walk
first_walk = walk_from nothing_held

first_stands : (s : Shape) (f : Form) → Fits s f → Stands s f (start_of f) first_walk
first_stands s f fits = ([], None, 1, refl, fits.positions, (refl, refl))

module _ (a : App) (f : Form) (has : HasForm a f) where
  with_wants : (k : Kinds) (rows : List Row) (o : Option (List (Text × Text))) → Agrees k rows o
      → Agrees (or_else k (check_fault (built a).top rows false)) rows
      (option_and_then (λ given. cond (is_complete f given) (Some given) None) o)
  with_wants k rows None fails = left_fails k _ fails
  with_wants k rows (Some given) agrees = go (is_complete f given) refl
    where
      checks : or_else k (check_fault (built a).top rows false)
          ≡ cond (is_complete f given) [] (kind.MissingRequiredArgument ∷ [])
      checks =
          ap₂ (λ x rs. or_else x (check_fault (built a).top rs false)) agrees.0 agrees.1 ∙ has.wants given

      go : (b : Bool) → is_complete f given ≡ b
          → Agrees (or_else k (check_fault (built a).top rows false)) rows (cond b (Some given) None)
      go true all = (checks ∙ ap (λ b. cond b [] (kind.MissingRequiredArgument ∷ [])) all, agrees.1)
      go false some =
          λ e. some_kind kind.MissingRequiredArgument []
          (sym (ap (λ b. cond b [] (kind.MissingRequiredArgument ∷ [])) some) ∙ sym checks ∙ e)

  all_words : (words : List Text) → argument_words a words ≡ words
  all_words words = rw has.all_words refl

  rows_are : (words : List Text) → matches_of a words ≡ rest_rows (built a).top first_walk words
  rows_are words =
      ap₂ (λ (subs : List Shape) ws. rows_after (built a).top.rules (map label_of subs) ws) has.leaf (all_words words)
      ∙ no_default_rows (built a).top.rules _ has.no_defaults

  -- the faults after the walk over the words
  abbrev checked : List Text → Kinds
  checked words =
      or_else (rest_fault (built a).top first_walk words)
      (check_fault (built a).top (rest_rows (built a).top first_walk words) false)

  faults_are : (words : List Text) → fault_of a words ≡ checked words
  faults_are words =
      let s = (built a).top in
      let end = (end_walk s first_walk words).held in
      ap (built_fault (built a) nothing_held) (all_words words)
      ∙ leaf_fault (built a) nothing_held words has.leaf
      ∙ ap₂ (λ d rows. or_else (walk_fault s [] first_walk words)
      (or_else (settle_fault s.rules s.args_override_self end) (or_else d (check_fault s rows false))))
      (no_default_faults s.rules (settled s.rules end).rows has.no_defaults)
      (no_default_rows s.rules (settled s.rules end).rows has.no_defaults)
      ∙ sym (grouped (walk_fault s [] first_walk words) _ _)

  pub takes_form : (words : List Text) → AreUtf8 words
      → Agrees (fault_of a words) (matches_of a words) (texts_of f words)
  takes_form words utf8 =
      let ours =
      agree (built a).top f has.fits words utf8 (start_of f) first_walk (first_stands (built a).top f has.fits) in
      subst (λ k. Agrees k (matches_of a words) (texts_of f words)) (sym (faults_are words))
      (subst (λ rows. Agrees (checked words) rows (texts_of f words)) (sym (rows_are words)) (with_wants _ _ _ ours))
