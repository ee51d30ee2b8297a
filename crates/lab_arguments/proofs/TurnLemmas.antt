-- One word: clap's turn agrees with ours.
use Rattle.std.proofs.Common.{◌≡◌, ◌∙◌, ◌⊎◌, ◌+◌, ◌&&◌, ◌||◌, ℕ, Bool, true, false, not, List, [], ◌∷◌, ◌++◌, Option}
use Rattle.std.proofs.Common.{Some, None, inl, inr, refl, ap, ap₂, sym, subst, cond, min}
use Rattle.std.proofs.lemmas.Bool.{and_right}
use Rattle.std.proofs.lemmas.Slice.Eq.{bytes_eq-Decides}
use Rattle.std.specs.Str.{IsUtf8, bytes_eq}
use Rattle.clap.specs.Lexer.{usize_max}
use Rattle.clap.specs.Walk.{Row, Waiting, Walk, arg_by_id, arg_by_index, arg_by_long, has_row, idle}
use Rattle.clap.specs.Walk.{is_pending, pushed, settled, settled_rows, subcommand_met, to_positional, used, value}
use Rattle.clap.specs.Walk.{walked}
use Rattle.clap.specs.Walk.{option as option_waits}
use Rattle.clap.specs.Simple.{Shape}
use Rattle.clap.specs.Kinds.{Kinds, or_else}
use Rattle.clap.specs.Faults.{flags_fault, step_fault, turn_fault, use_fault}
use Rattle.clap.specs.declared.error.kind.ErrorKind.{ErrorKind}
use Rattle.clap.specs.declared.error.kind.ErrorKind.TheVariants as kind
use Rattle.lab_arguments.specs.Grammar.{Form, Expected, Reading, Sort, Text, anything, end_of_options, give}
use Rattle.lab_arguments.specs.Grammar.{give_option}
use Rattle.lab_arguments.specs.Grammar.{give_plain, is_among, is_given, option, plain, plain_only, stray, take_any}
use Rattle.lab_arguments.specs.Grammar.{take_text}
use Rattle.lab_arguments.specs.Grammar.{text_of_option}
use Rattle.lab_arguments.proofs.RowLemmas.{has_row-given, rows_of_texts, used_new}
use Rattle.lab_arguments.proofs.SortLemmas.{SortFacts, char_behind, nil≢cons}
use Rattle.lab_arguments.proofs.Standing.{Faulty, Fits, IsDoomed, PlainAt, Settles, Stands, StepOf, held, option_rule}
use Rattle.lab_arguments.proofs.Standing.{plain_rule, settle, stand, text_rule}

-- ---- kinds

pub some_kind : (k : ErrorKind) (ks : Kinds) → Faulty (k ∷ ks)
some_kind k ks e = nil≢cons k ks (sym e)

pub left_fails : (a b : Kinds) → Faulty a → Faulty (or_else a b)
left_fails [] b fails e = fails refl
left_fails (k ∷ ks) b fails e = some_kind k ks e

pub right_fails : (a b : Kinds) → Faulty b → Faulty (or_else a b)
right_fails [] b fails e = fails e
right_fails (k ∷ ks) b fails e = some_kind k ks e

-- ---- a text for a name

module _ (again : Bool) (name text : Text) (long : Option Text) (index : Option ℕ) (given : List (Text × Text)) where
  pub use_new : is_given name given ≡ false
      → use_fault again (text_rule name long index) (text ∷ []) (rows_of_texts given) ≡ []
  use_new new =
      let absent : has_row name (rows_of_texts given) ≡ false = sym (has_row-given name given) ∙ new in
      ap (λ b. or_else (cond (b && not again) (kind.ArgumentConflict ∷ []) []) []) absent

  pub use_again : again ≡ false → is_given name given ≡ true
      → Faulty (use_fault again (text_rule name long index) (text ∷ []) (rows_of_texts given))
  use_again once old =
      let there : has_row name (rows_of_texts given) ≡ true = sym (has_row-given name given) ∙ old in
      let is : use_fault again (text_rule name long index) (text ∷ []) (rows_of_texts given)
      ≡ kind.ArgumentConflict ∷ [] =
      ap₂ (λ b a. or_else (cond (b && not a) (kind.ArgumentConflict ∷ []) []) []) there once in
      λ e. some_kind kind.ArgumentConflict [] (sym is ∙ e)

-- what is pending with one text
module _ (s : Shape) (name text : Text) (long : Option Text) (index : Option ℕ) (rows : List Row)
    (given : List (Text × Text)) (found : arg_by_id s.rules name ≡ Some (text_rule name long index))
    (is : rows ≡ rows_of_texts given) where
  pub pending_settles : is_given name given ≡ false
      → Settles s rows (Some (name, text ∷ [])) (given ++ (name, text) ∷ [])
  pending_settles new = (
    rw (found, is) (use_new s.args_override_self name text long index given new),
    rw (found, is) (used_new name text given new),
  )

  pub pending_fails : s.args_override_self ≡ false → is_given name given ≡ true
      → Faulty (settle s rows (Some (name, text ∷ [])))
  pending_fails once old = rw (found, is) (use_again s.args_override_self name text long index given once old)

pub no_text_fails : (s : Shape) (name : Text) (rows : List Row) → arg_by_id s.rules name ≡ Some (option_rule name)
    → Faulty (settle s rows (Some (name, [])))
no_text_fails s name rows found = rw found (some_kind kind.InvalidValue [])

same_text : (name : Text) → bytes_eq name name ≡ true
same_text name = (bytes_eq-Decides name name).1 refl

-- ---- a word for a positional

abbrev pub place_of : Bool → Expected
place_of true = plain_only
place_of false = anything

abbrev pub reading : Expected → List Text → List (Text × Text) → Reading
reading place left given = record { expected = place; left = left; given = given }

module _ (s : Shape) (t : Bool) (rows : List Row) (pending : Option (Text × List Text)) (position : ℕ)
    (left : List Text) (w : Walk) (is : w ≡ stand rows pending idle position (t || false))
    (at : PlainAt s.rules position left) where
  stands_plain : (f : Form) (given : List (Text × Text)) → Settles s rows pending given
      → Stands s f (reading (place_of t) left given) w
  stands_plain f given settles = go t is
    where
      go : (b : Bool) → w ≡ stand rows pending idle position (b || false)
          → Stands s f (reading (place_of b) left given) w
      go true same = (rows, pending, position, same, at, settles)
      go false same = (rows, pending, position, same, at, settles)

  doomed_plain : Faulty (settle s rows pending) → IsDoomed s w
  doomed_plain fails = go t is
    where
      go : (b : Bool) → w ≡ stand rows pending idle position (b || false) → IsDoomed s w
      go true same = (rows, pending, position, left, inr (idle, same), at, fails)
      go false same = (rows, pending, position, left, inl same, at, fails)

module _ (s : Shape) (rows : List Row) (pending : Option (Text × List Text)) (position : ℕ) where
  plain_fault : (name : Text) (i : ℕ) → arg_by_index s.rules position ≡ Some (plain_rule name i)
      → step_fault s position (held rows pending) value ≡ settle s rows pending
  plain_fault name i found =
      rw found
      (ap (λ b. cond b [] (settle s rows pending)) (and_right (is_pending (plain_rule name i) pending) false refl))

  no_plain_fault : arg_by_index s.rules position ≡ None → Faulty (step_fault s position (held rows pending) value)
  no_plain_fault none = rw none (go s.is_leaf)
    where
      go : (b : Bool)
          → Faulty (cond b (kind.UnknownArgument ∷ []) (kind.UnknownArgument ∷ kind.InvalidSubcommand ∷ []))
      go true = some_kind kind.UnknownArgument []
      go false = some_kind kind.UnknownArgument (kind.InvalidSubcommand ∷ [])

  abbrev behind_plain : Bool → Text → Walk
  behind_plain t word =
      to_positional s.rules (arg_by_index s.rules position) word (stand rows pending idle position t)
      (held rows pending)

  plain_walk : (t : Bool) (name word : Text) → arg_by_index s.rules position ≡ Some (plain_rule name position)
      → behind_plain t word ≡ stand (settled_rows s.rules pending rows) (Some (name, word ∷ [])) idle
      (min (position + 1) usize_max) (t || false)
  plain_walk t name word found =
      rw found (ap (λ b. record {
        held = pushed name word (cond b (held rows pending) (settled s.rules (held rows pending)));
        waiting = idle;
        position = min (position + 1) usize_max;
        is_trailing = t || false;
        stopped = None;
      }) (and_right (is_pending (plain_rule name position) pending) false refl))

  pub plain_step : (f : Form) → Fits s f → (t : Bool) (left : List Text) (given : List (Text × Text)) (word : Text)
      → PlainAt s.rules position left → Settles s rows pending given → (k : Kinds) (w : Walk)
      → k ≡ step_fault s position (held rows pending) value → w ≡ behind_plain t word
      → StepOf s f k w (give_plain left word (reading (place_of t) left given))
  plain_step f fits t [] given word at settles k w faults walks = inl (λ none. no_plain_fault at (sym faults ∙ none))
  plain_step f fits t (name ∷ left) given word at settles k w faults walks = go (is_given name given) refl
    where
      behind : w ≡ stand (settled_rows s.rules pending rows) (Some (name, word ∷ [])) idle
          (min (position + 1) usize_max) (t || false)
      behind = walks ∙ plain_walk t name word at.0

      go : (b : Bool) → is_given name given ≡ b
          → StepOf s f k w (cond b None (Some (reading (place_of t) left (given ++ (name, word) ∷ []))))
      go true old =
          inr (doomed_plain s t _ _ _ left w behind at.2
          (pending_fails s name word None (Some position) _ given at.1 settles.1 fits.once old))
      go false new = (
        faults ∙ plain_fault name position at.0 ∙ settles.0,
        stands_plain s t _ _ _ left w behind at.2 f _
            (pending_settles s name word None (Some position) _ given at.1 settles.1 new),
      )

-- ---- a word that fails wherever options may come

module _ (s : Shape) (f : Form) (fits : Fits s f) (rows : List Row) (pending : Option (Text × List Text))
    (waiting : Waiting) (position : ℕ) (word : Text) (calm : subcommand_met [] waiting word ≡ None) where
  abbrev Fails : Type 0
  Fails = Faulty (turn_fault s [] (stand rows pending waiting position false) word)

  pub stray_fails : IsUtf8 word → SortFacts word stray → Fails
  unfolding flags_fault
  stray_fails utf8 facts =
      let behind = char_behind facts.2 facts.3 (subst IsUtf8 facts.5 utf8) in
      rw (calm, facts.0, facts.1, facts.4, ← behind.1, fits.no_short behind.0) (some_kind kind.UnknownArgument [])

  pub unknown_fails : (name : Text) (text : Option Text) → SortFacts word (option name text)
      → is_among name f.option_names ≡ false → Fails
  unknown_fails name text facts unknown =
      rw (calm, facts.0, facts.1, fits.unknown name unknown) (some_kind kind.UnknownArgument [])

  known_fails : (name : Text) (text : Option Text) → SortFacts word (option name text)
      → is_among name f.option_names ≡ true → Faulty (settle s rows pending) → Fails
  known_fails name None facts known fails =
      rw (calm, facts.0, facts.1, fits.known name known) (left_fails _ _ fails)
  known_fails name (Some text) facts known fails =
      rw (calm, facts.0, facts.1, fits.known name known) (left_fails _ _ (left_fails _ _ fails))

  pub long_fails : (name : Text) (text : Option Text) → SortFacts word (option name text)
      → Faulty (settle s rows pending) → Fails
  long_fails name text facts fails = go (is_among name f.option_names) refl
    where
      go : (b : Bool) → is_among name f.option_names ≡ b → Fails
      go true known = known_fails name text facts known fails
      go false unknown = unknown_fails name text facts unknown

-- ---- a word where anything may come

module _ (s : Shape) (f : Form) (fits : Fits s f) (rows : List Row) (pending : Option (Text × List Text))
    (position : ℕ) (left : List Text) (given : List (Text × Text)) (word : Text)
    (at : PlainAt s.rules position left) (settles : Settles s rows pending given) where
  abbrev here : Walk
  here = stand rows pending idle position false

  abbrev Steps : Option Reading → Type 0
  Steps next = StepOf s f (turn_fault s [] here word) (walked s.rules [] here word) next

  end_step : SortFacts word end_of_options → Steps (Some (reading plain_only left given))
  unfolding walked
  end_step is = (rw is refl, (rows, pending, position, rw is refl, at, settles))

  word_step : SortFacts word plain → Steps (give_plain left word (reading anything left given))
  unfolding walked
  word_step facts =
      plain_step s rows pending position f fits false left given word at settles _ _
      (rw (facts.0, facts.1, facts.2) refl) (rw (facts.0, facts.1, facts.2) refl)

  wait_step : (name : Text) → SortFacts word (option name None) → is_among name f.option_names ≡ true
      → Steps (Some (reading (text_of_option name) left given))
  unfolding walked
  wait_step name facts known =
      let found = fits.known name known in (
        rw (facts.0, facts.1, found) (rw settles.0 refl),
        (settled_rows s.rules pending rows, position, rw (facts.0, facts.1, found) refl, at, settles.1, known),
      )

  attached_step : (name text : Text) → SortFacts word (option name (Some text)) → is_among name f.option_names ≡ true
      → Steps (give name text (reading anything left given))
  unfolding walked
  attached_step name text facts known = go (is_given name given) refl
    where
      found : arg_by_long s.rules name ≡ Some (option_rule name)
      found = fits.known name known

      uses : turn_fault s [] here word
          ≡ or_else (use_fault s.args_override_self (option_rule name) (text ∷ []) (rows_of_texts given)) []
      uses = rw (facts.0, facts.1, found) (rw (settles.0, settles.1) refl)

      go : (b : Bool) → is_given name given ≡ b
          → Steps (cond b None (Some (reading anything left (given ++ (name, text) ∷ []))))
      go true old =
          inl (λ none. left_fails _ [] (use_again s.args_override_self name text (Some name) None given fits.once old)
          (sym uses ∙ none))
      go false new = (
        uses ∙ ap (λ k. or_else k []) (use_new s.args_override_self name text (Some name) None given new),
        (
          used (option_rule name) (text ∷ []) (settled_rows s.rules pending rows),
          None,
          position,
          rw (facts.0, facts.1, found) refl,
          at,
          (refl, ap (used (option_rule name) (text ∷ [])) settles.1 ∙ used_new name text given new),
        ),
      )

  pub any_step : (sort : Sort) → IsUtf8 word → SortFacts word sort
      → Steps (take_any f sort word (reading anything left given))
  any_step end_of_options utf8 facts = end_step facts
  any_step stray utf8 facts = inl (stray_fails s f fits rows pending idle position word refl utf8 facts)
  any_step plain utf8 facts = word_step facts
  any_step (option name text) utf8 facts = go (is_among name f.option_names) refl
    where
      known_step : (after : Option Text) → SortFacts word (option name after) → is_among name f.option_names ≡ true
          → Steps (give_option name after (reading anything left given))
      known_step None is known = wait_step name is known
      known_step (Some after) is known = attached_step name after is known

      go : (b : Bool) → is_among name f.option_names ≡ b
          → Steps (cond b (give_option name text (reading anything left given)) None)
      go true known = known_step text facts known
      go false unknown = inl (unknown_fails s f fits rows pending idle position word refl name text facts unknown)

  -- after `--`
  pub tail_step : StepOf s f (turn_fault s [] (stand rows pending idle position true) word)
      (walked s.rules [] (stand rows pending idle position true) word)
      (give_plain left word (reading plain_only left given))
  unfolding walked
  tail_step = plain_step s rows pending position f fits true left given word at settles _ _ refl refl

-- ---- a word where an option wants its text

module _ (s : Shape) (f : Form) (fits : Fits s f) (rows : List Row) (position : ℕ) (left : List Text)
    (given : List (Text × Text)) (name word : Text) (at : PlainAt s.rules position left)
    (are : rows ≡ rows_of_texts given) (known : is_among name f.option_names ≡ true) where
  abbrev waits : Walk
  waits = stand rows (Some (name, [])) (option_waits name) position false

  abbrev TextSteps : Option Reading → Type 0
  TextSteps next = StepOf s f (turn_fault s [] waits word) (walked s.rules [] waits word) next

  text_step : SortFacts word plain → TextSteps (give name word (reading anything left given))
  unfolding walked
  text_step facts = go (is_given name given) refl
    where
      found : arg_by_id s.rules name ≡ Some (option_rule name)
      found = fits.known_id name known

      behind : walked s.rules [] waits word ≡ stand rows (Some (name, word ∷ [])) idle position false
      behind = rw (facts.0, facts.1, facts.2, found, same_text name) refl

      go : (b : Bool) → is_given name given ≡ b
          → TextSteps (cond b None (Some (reading anything left (given ++ (name, word) ∷ []))))
      go true old =
          inr (
            _,
            _,
            position,
            left,
            inl behind,
            at,
            pending_fails s name word (Some name) None rows given found are fits.once old,
          )
      go false new = (
        rw (facts.0, facts.1, facts.2) refl,
        (
          _,
          _,
          position,
          behind,
          at,
          pending_settles s name word (Some name) None rows given found are new,
        ),
      )

  no_text : Faulty (settle s rows (Some (name, [])))
  no_text = no_text_fails s name rows (fits.known_id name known)

  end_dooms : SortFacts word end_of_options → IsDoomed s (walked s.rules [] waits word)
  unfolding walked
  end_dooms is = (rows, Some (name, []), position, left, inr (option_waits name, rw is refl), at, no_text)

  pub value_step : (sort : Sort) → IsUtf8 word → SortFacts word sort
      → TextSteps (take_text name sort word (reading (text_of_option name) left given))
  value_step plain utf8 facts = text_step facts
  value_step end_of_options utf8 facts = inr (end_dooms facts)
  value_step (option other text) utf8 facts =
      inl (long_fails s f fits rows (Some (name, [])) (option_waits name) position word refl other text facts no_text)
  value_step stray utf8 facts =
      inl (stray_fails s f fits rows (Some (name, [])) (option_waits name) position word refl utf8 facts)

-- ---- a word where what is pending fails

-- each word fails at once, or leaves the walk doomed
abbrev pub DoomedTurn : Shape → Walk → Text → Type 0
DoomedTurn s w word = Faulty (turn_fault s [] w word) ⊎ IsDoomed s (walked s.rules [] w word)

module _ (s : Shape) (f : Form) (fits : Fits s f) (rows : List Row) (pending : Option (Text × List Text))
    (position : ℕ) (left : List Text) (word : Text) (at : PlainAt s.rules position left)
    (fails : Faulty (settle s rows pending)) where
  plain_fails : Faulty (step_fault s position (held rows pending) value)
  plain_fails = go left at
    where
      go : (names : List Text) → PlainAt s.rules position names
          → Faulty (step_fault s position (held rows pending) value)
      go [] none = no_plain_fault s rows pending position none
      go (name ∷ names) some = λ e. fails (sym (plain_fault s rows pending position name position some.0) ∙ e)

  pub tail_fails : (waiting : Waiting) → Faulty (turn_fault s [] (stand rows pending waiting position true) word)
  tail_fails waiting = plain_fails

  pub doomed_by_sort : (sort : Sort) → IsUtf8 word → SortFacts word sort
      → DoomedTurn s (stand rows pending idle position false) word
  unfolding walked
  doomed_by_sort end_of_options utf8 is = inr (rows, pending, position, left, inr (idle, rw is refl), at, fails)
  doomed_by_sort (option name text) utf8 facts =
      inl (long_fails s f fits rows pending idle position word refl name text facts fails)
  doomed_by_sort stray utf8 facts = inl (stray_fails s f fits rows pending idle position word refl utf8 facts)
  doomed_by_sort plain utf8 facts = inl (rw (facts.0, facts.1, facts.2) plain_fails)
