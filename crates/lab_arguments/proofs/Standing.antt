-- Where clap's walk over the words stands, by where our reading stands.
use Rattle.std.proofs.Common.{◌≡◌, ◌+◌, ◌⊎◌, ℕ, Bool, true, false, List, [], ◌∷◌, Option, Some, None, is_some, min}
use Rattle.clap.specs.Lexer.{usize_max}
use Rattle.clap.specs.Walk.{Held, Row, Rule, Waiting, Walk, arg_by_id, arg_by_index, arg_by_long, arg_by_short, idle}
use Rattle.clap.specs.Walk.{settled_rows}
use Rattle.clap.specs.Walk.{option as option_waits}
use Rattle.clap.specs.Simple.{Shape, new_rule}
use Rattle.clap.specs.Kinds.{Kinds}
use Rattle.clap.specs.Faults.{settle_fault}
use Rattle.clap.specs.declared.builder.action.ArgAction.TheVariants.{Set}
use Rattle.clap.specs.declared.builder.value_parser.ValueParser.TheVariants as vp
use Rattle.lab_arguments.specs.Grammar.{Form, Expected, Reading, Text, anything, is_among, plain_only, text_of_option}
use Rattle.lab_arguments.proofs.RowLemmas.{rows_of_texts}

-- an argument of our commands, as clap has built it: one text, at most once, and a positional is wanted
abbrev pub text_rule : Text → Option Text → Option ℕ → Rule
text_rule id long index = record (new_rule id) {
  long = long;
  index = index;
  action = Some Set;
  range = Some (record { start_inclusive = 1; end_inclusive = 1 });
  parser = Some vp.String;
  required = is_some index;
}

abbrev pub option_rule : Text → Rule
option_rule name = text_rule name (Some name) None

abbrev pub plain_rule : Text → ℕ → Rule
plain_rule name i = text_rule name None (Some i)

-- from position i on, the positionals are these
abbrev pub PlainAt : List Rule → ℕ → List Text → Type 0
PlainAt c i [] = arg_by_index c i ≡ None
PlainAt c i (name ∷ left) = (arg_by_index c i ≡ Some (plain_rule name i))
    × (arg_by_id c name ≡ Some (plain_rule name i)) × PlainAt c (min (i + 1) usize_max) left

-- a built command has the arguments of the form, and no others
pub record Fits (s : Shape) (f : Form) : Type 0 where
  pub once : s.args_override_self ≡ false
  pub no_short : (x : ℕ) → arg_by_short s.rules x ≡ None
  pub known : (name : Text) → is_among name f.option_names ≡ true → arg_by_long s.rules name ≡ Some (option_rule name)
  pub known_id : (name : Text) → is_among name f.option_names ≡ true → arg_by_id s.rules name ≡ Some (option_rule name)
  pub unknown : (name : Text) → is_among name f.option_names ≡ false → arg_by_long s.rules name ≡ None
  pub positions : PlainAt s.rules 1 f.plain_names

abbrev pub held : List Row → Option (Text × List Text) → Held
held rows pending = record { rows = rows; pending = pending; skip = 0 }

abbrev pub stand : List Row → Option (Text × List Text) → Waiting → ℕ → Bool → Walk
stand rows pending waiting position is_trailing = record {
  held = held rows pending;
  waiting = waiting;
  position = position;
  is_trailing = is_trailing;
  stopped = None;
}

abbrev pub Faulty : Kinds → Type 0
Faulty k = k ≡ [] → ⊥

abbrev pub settle : Shape → List Row → Option (Text × List Text) → Kinds
settle s rows pending = settle_fault s.rules s.args_override_self (held rows pending)

-- what is held gives these texts, once what is pending is used
abbrev pub Settles : Shape → List Row → Option (Text × List Text) → List (Text × Text) → Type 0
Settles s rows pending given = (settle s rows pending ≡ []) × (settled_rows s.rules pending rows ≡ rows_of_texts given)

abbrev pub StandsAt : Shape → Form → Expected → Reading → Walk → Type 0
StandsAt s f anything r w = (rows : List Row) × (pending : Option (Text × List Text)) × (position : ℕ)
    × (w ≡ stand rows pending idle position false) × PlainAt s.rules position r.left × Settles s rows pending r.given
StandsAt s f plain_only r w = (rows : List Row) × (pending : Option (Text × List Text)) × (position : ℕ)
    × (w ≡ stand rows pending idle position true) × PlainAt s.rules position r.left × Settles s rows pending r.given
StandsAt s f (text_of_option name) r w = (rows : List Row) × (position : ℕ)
    × (w ≡ stand rows (Some (name, [])) (option_waits name) position false) × PlainAt s.rules position r.left
    × (rows ≡ rows_of_texts r.given) × (is_among name f.option_names ≡ true)

abbrev pub Stands : Shape → Form → Reading → Walk → Type 0
Stands s f r w = StandsAt s f r.expected r w

-- the walk holds a fault that each next word, and the end, will find
abbrev pub IsDoomed : Shape → Walk → Type 0
IsDoomed s w = (rows : List Row) × (pending : Option (Text × List Text)) × (position : ℕ) × (left : List Text)
    × ((w ≡ stand rows pending idle position false) ⊎
    ((waiting : Waiting) × (w ≡ stand rows pending waiting position true)))
    × PlainAt s.rules position left × Faulty (settle s rows pending)

-- what a word comes to: k are the faults of its turn, and w the walk after it
abbrev pub StepOf : Shape → Form → Kinds → Walk → Option Reading → Type 0
StepOf s f k w (Some r) = (k ≡ []) × Stands s f r w
StepOf s f k w None = Faulty k ⊎ IsDoomed s w
