-- What comes next in a script rests on what is to come in it, its variables and its macros, but for its place.
use Rattle.std.proofs.Common.{◌≡◌, ◌⊎◌, inl, inr, ◌∷◌, ◌++◌, ◌+◌, ◌≤◌, ◌∙◌, ℕ, nat_eq, nat_lt, if◌then◌else◌, Bool}
use Rattle.std.proofs.Common.{true, false}
use Rattle.std.proofs.Common.{List, [], map, Option, None, Some, refl, ap, arith}
use Rattle.std.specs.Cmp.Lexicographic.{pointwise}
use Rattle.std.specs.Option.{option_map}
use Rattle.std.proofs.lemmas.Bool.{ltb-true}
use Rattle.indexmap.specs.IndexMap.{insert_entry}
use Rattle.resc_vars.specs.declared.cause.ScriptCause.{ScriptCause}
use Rattle.resc_vars.specs.declared.cause.ScriptCause.TheVariants as causes
use Rattle.resc_vars.specs.declared.item.Item.{Item}
use Rattle.resc_vars.specs.declared.item.Item.TheVariants.{Command, Malformed, Assign, Define, Unclosed}
use Rattle.resc_vars.specs.declared.item.Line.{Line}
use Rattle.resc_vars.specs.Script.{Open, State, Kept, Macros, Outcome, Gives, Ends, Refuses, state_of, counted, defined}
use Rattle.resc_vars.specs.Script.{given, onward, within_limit, in_body, in_bodies, next_of, command_limit}
use Rattle.resc_vars.specs.Variables.{Variables, command_text, stands_for, with_value}
use Rattle.resc_vars.specs.Coming.{Thing, MeansSame, TakesMore, bodies, coming, texts, thing, things}
use Rattle.resc_vars.specs.Coming as thing_of

-- what comes next, without its place
pub data Seen : Type 0 where
  Said : List ℕ → List Thing → Variables → List (List ℕ × List (List ℕ)) → Seen
  Over : Seen
  Bad : ScriptCause → Seen

abbrev pub seen : Outcome → Seen
seen (Gives file n text flow) = Said text (coming flow) flow.kept.variables (bodies flow.kept.macros)
seen (Ends kept) = Over
seen (Refuses file n cause kept) = Bad cause

abbrev said : List Thing → Variables → List (List ℕ × List (List ℕ)) → Option (List ℕ) → Seen
said rest v m None = Bad causes.Variable
said rest v m (Some text) = Said text rest v m

abbrev set : Option (List ℕ) → (List ℕ → Seen) → Seen
set None rest = Bad causes.Variable
set (Some value) rest = rest value

abbrev limited : ℕ → Seen → Seen
limited taken next = if nat_lt taken command_limit then next else Bad causes.Commands

-- what comes next of things to come, where so many commands were taken before
abbrev look : List Thing → Variables → List (List ℕ × List (List ℕ)) → ℕ → Seen
look [] v m taken = Over
look (thing_of.Unclosed ∷ rest) v m taken = Bad causes.Unclosed
look (thing_of.Command text ∷ rest) v m taken = limited taken (said rest v m (command_text v text))
look (thing_of.Malformed text ∷ rest) v m taken = limited taken (Said text rest v m)
look (thing_of.Assign a ∷ rest) v m taken =
    limited taken
    (set (stands_for v a.value) (λ value. look rest (with_value v a.name a.only_if_unset value) m (taken + 1)))
look (thing_of.Define name lines ∷ rest) v m taken =
    limited taken (look rest v (insert_entry (pointwise nat_eq) m name lines) (taken + 1))

insert_bodies : (macros : Macros) (name file : List ℕ) (lines : List Line) →
    bodies (insert_entry (pointwise nat_eq) macros name (record { file = file; lines = lines }))
    ≡ insert_entry (pointwise nat_eq) (bodies macros) name (texts lines)
insert_bodies [] name file lines = refl
insert_bodies (macro ∷ macros) name file lines =
    by_name (pointwise nat_eq name macro.0) (insert_bodies macros name file lines)
  where
    by_name : (b : Bool) →
        bodies (insert_entry (pointwise nat_eq) macros name (record { file = file; lines = lines }))
        ≡ insert_entry (pointwise nat_eq) (bodies macros) name (texts lines) →
        bodies (if b then (macro.0, record { file = file; lines = lines }) ∷ macros
        else macro ∷ insert_entry (pointwise nat_eq) macros name (record { file = file; lines = lines }))
        ≡ (if b then (macro.0, texts lines) ∷ bodies macros
        else (macro.0, texts macro.1.lines) ∷ insert_entry (pointwise nat_eq) (bodies macros) name (texts lines))
    by_name true same = refl
    by_name false same = ap (λ rest. (macro.0, texts macro.1.lines) ∷ rest) same

abbrev SeenAs : List Thing → Kept → Outcome → Type 0
SeenAs all kept outcome = seen outcome ≡ look all kept.variables (bodies kept.macros) kept.taken

limit_seen : (b : Bool) (file : List ℕ) (n : ℕ) (kept : Kept) (outcome : Outcome) (next : Seen) → seen outcome ≡ next →
    seen (if b then outcome else Refuses file n causes.Commands kept) ≡ (if b then next else Bad causes.Commands)
limit_seen true file n kept outcome next is = is
limit_seen false file n kept outcome next is = refl

within_seen : (file : List ℕ) (n : ℕ) (kept : Kept) (outcome : Outcome) (next : Seen) → seen outcome ≡ next →
    seen (within_limit file n kept outcome) ≡ limited kept.taken next
within_seen file n kept outcome next is = limit_seen (nat_lt kept.taken command_limit) file n kept outcome next is

given_seen : (file : List ℕ) (n : ℕ) (kept : Kept) (text : Option (List ℕ)) (after : State) →
    seen (given file n kept text after) ≡ said (coming after) after.kept.variables (bodies after.kept.macros) text
given_seen file n kept None after = refl
given_seen file n kept (Some text) after = refl

set_seen : (file : List ℕ) (n : ℕ) (kept : Kept) (value : Option (List ℕ)) (with : List ℕ → Kept)
    (rest : Kept → Outcome) (next : List ℕ → Seen) → ((x : List ℕ) → seen (rest (with x)) ≡ next x) →
    seen (onward file n kept (option_map with value) rest) ≡ set value next
set_seen file n kept None with rest next are = refl
set_seen file n kept (Some value) with rest next are = are value

module _ (file : List ℕ) (outer : List Open) (around : Kept → Outcome)
    (are : (k : Kept) → SeenAs (things outer) k (around k)) where
  body_seen : (items : List Item) (kept : Kept) →
      SeenAs (map thing items ++ things outer) kept (in_body file items outer kept around)
  body_seen [] kept = are kept
  body_seen (Unclosed n ∷ items) kept = refl
  body_seen (Command line ∷ items) kept =
      within_seen file line.number kept _ _
      (given_seen file line.number kept (command_text kept.variables line.text)
      (state_of file items outer (counted kept)))
  body_seen (Malformed line ∷ items) kept = within_seen file line.number kept _ _ refl
  body_seen (Assign n a ∷ items) kept =
      within_seen file n kept _ _
      (set_seen file n kept (stands_for kept.variables a.value)
      (λ value. record (counted kept) { variables = with_value kept.variables a.name a.only_if_unset value })
      (λ after. in_body file items outer after around) _
      (λ value. body_seen items
      (record (counted kept) { variables = with_value kept.variables a.name a.only_if_unset value })))
  body_seen (Define n name lines ∷ items) kept =
      within_seen file n kept _ _
      (body_seen items (defined kept file name lines)
      ∙ ap (λ m. look (map thing items ++ things outer) kept.variables m (kept.taken + 1))
      (insert_bodies kept.macros name file lines))

bodies_seen : (all : List Open) (kept : Kept) → SeenAs (things all) kept (in_bodies all kept)
bodies_seen [] kept = refl
bodies_seen (body ∷ outer) kept =
    body_seen body.file outer (in_bodies outer) (bodies_seen outer) body.items kept

-- the first or the second is refused for its count of commands, or both are the same
abbrev pub OneUnless : Seen → Seen → Type 0
OneUnless one two = (one ≡ Bad causes.Commands) ⊎ (two ≡ Bad causes.Commands) ⊎ (two ≡ one)

limited_by : (b c : Bool) (one two : Seen) → OneUnless one two →
    OneUnless (if b then one else Bad causes.Commands) (if c then two else Bad causes.Commands)
limited_by true true one two are = are
limited_by false c one two are = inl refl
limited_by true false one two are = inr (inl refl)

limited_one : (t u : ℕ) (one two : Seen) → OneUnless one two → OneUnless (limited t one) (limited u two)
limited_one t u one two are = limited_by (nat_lt t command_limit) (nat_lt u command_limit) one two are

set_one : (value : Option (List ℕ)) (one two : List ℕ → Seen) → ((x : List ℕ) → OneUnless (one x) (two x)) →
    OneUnless (set value one) (set value two)
set_one None one two are = inr (inr refl)
set_one (Some value) one two are = are value

look_one : (all : List Thing) (v : Variables) (m : List (List ℕ × List (List ℕ))) (t u : ℕ) →
    OneUnless (look all v m t) (look all v m u)
look_one [] v m t u = inr (inr refl)
look_one (thing_of.Unclosed ∷ rest) v m t u = inr (inr refl)
look_one (thing_of.Command text ∷ rest) v m t u = limited_one t u _ _ (inr (inr refl))
look_one (thing_of.Malformed text ∷ rest) v m t u = limited_one t u _ _ (inr (inr refl))
look_one (thing_of.Assign a ∷ rest) v m t u =
    limited_one t u _ _
    (set_one (stands_for v a.value) _ _
    (λ value. look_one rest (with_value v a.name a.only_if_unset value) m (t + 1) (u + 1)))
look_one (thing_of.Define name lines ∷ rest) v m t u =
    limited_one t u _ _ (look_one rest v (insert_entry (pointwise nat_eq) m name lines) (t + 1) (u + 1))

-- what comes next in two scripts that mean the same
pub next_one : (flow other : State) → MeansSame flow other → OneUnless (seen (next_of flow)) (seen (next_of other))
next_one flow other same =
    rw (
      bodies_seen (flow.current ∷ flow.outer) flow.kept,
      bodies_seen (other.current ∷ other.outer) other.kept,
      same.to_come,
      same.variables,
      same.macros,
    )
    (look_one (coming flow) flow.kept.variables (bodies flow.kept.macros) flow.kept.taken other.kept.taken)

takes_within : (before : ℕ) (b : Bool) (file : List ℕ) (n : ℕ) (kept : Kept) (outcome : Outcome) →
    (b ≡ true → TakesMore before outcome) →
    TakesMore before (if b then outcome else Refuses file n causes.Commands kept)
takes_within before true file n kept outcome takes = takes refl
takes_within before false file n kept outcome takes = tt

takes_given : (before : ℕ) (file : List ℕ) (n : ℕ) (kept : Kept) (text : Option (List ℕ)) (after : State) →
    TakesMore before (Gives file n [] after) → TakesMore before (given file n kept text after)
takes_given before file n kept None after takes = tt
takes_given before file n kept (Some text) after takes = takes

takes_onward : (before : ℕ) (file : List ℕ) (n : ℕ) (kept : Kept) (value : Option (List ℕ)) (with : List ℕ → Kept)
    (rest : Kept → Outcome) → ((x : List ℕ) → TakesMore before (rest (with x))) →
    TakesMore before (onward file n kept (option_map with value) rest)
takes_onward before file n kept None with rest are = tt
takes_onward before file n kept (Some value) with rest are = are value

module _ (before : ℕ) (file : List ℕ) (outer : List Open) (around : Kept → Outcome)
    (are : (k : Kept) → before ≤ k.taken → TakesMore before (around k)) where
  takes_body : (items : List Item) (kept : Kept) → before ≤ kept.taken →
      TakesMore before (in_body file items outer kept around)
  takes_body [] kept low = are kept low
  takes_body (Unclosed n ∷ items) kept low = tt
  takes_body (Command line ∷ items) kept low =
      takes_within before (nat_lt kept.taken command_limit) file line.number kept _
      (λ few. takes_given before file line.number kept (command_text kept.variables line.text)
      (state_of file items outer (counted kept))
      (let room = ltb-true kept.taken command_limit few in (omega arith, omega arith)))
  takes_body (Malformed line ∷ items) kept low =
      takes_within before (nat_lt kept.taken command_limit) file line.number kept _
      (λ few. let room = ltb-true kept.taken command_limit few in (omega arith, omega arith))
  takes_body (Assign n a ∷ items) kept low =
      takes_within before (nat_lt kept.taken command_limit) file n kept _
      (λ few. takes_onward before file n kept (stands_for kept.variables a.value)
      (λ value. record (counted kept) { variables = with_value kept.variables a.name a.only_if_unset value })
      (λ after. in_body file items outer after around)
      (λ value. takes_body items
      (record (counted kept) { variables = with_value kept.variables a.name a.only_if_unset value }) (omega arith)))
  takes_body (Define n name lines ∷ items) kept low =
      takes_within before (nat_lt kept.taken command_limit) file n kept _
      (λ few. takes_body items (defined kept file name lines) (omega arith))

takes_bodies : (before : ℕ) (all : List Open) (kept : Kept) → before ≤ kept.taken →
    TakesMore before (in_bodies all kept)
takes_bodies before [] kept low = tt
takes_bodies before (body ∷ outer) kept low =
    takes_body before body.file outer (in_bodies outer) (takes_bodies before outer) body.items kept low

pub next_takes : (flow : State) → TakesMore flow.kept.taken (next_of flow)
next_takes flow = takes_bodies flow.kept.taken (flow.current ∷ flow.outer) flow.kept (omega arith)
