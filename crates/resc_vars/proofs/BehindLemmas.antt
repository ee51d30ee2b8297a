-- What comes next in a script with more behind is what comes next in the shorter one, until that ends.
use Rattle.std.proofs.Common.{◌≡◌, ◌∷◌, ◌++◌, ℕ, nat_lt, if◌then◌else◌, Bool, true, false, List, []}
use Rattle.std.proofs.Common.{Option, None, Some, refl}
use Rattle.resc_vars.specs.declared.cause.ScriptCause.TheVariants.{Commands}
use Rattle.resc_vars.specs.declared.item.Item.{Item}
use Rattle.resc_vars.specs.declared.item.Item.TheVariants.{Command, Malformed, Assign, Define, Unclosed}
use Rattle.resc_vars.specs.Behind.{IfGives, longer, next_behind, outermost, with_behind}
use Rattle.resc_vars.specs.Script.{Open, State, Kept, Outcome, Ends, Refuses, state_of, counted, assigned, defined}
use Rattle.resc_vars.specs.Script.{given, onward, within_limit, in_body, in_bodies, next_of, command_limit}

-- the outermost body is of this file
abbrev pub IsOf : List ℕ → List ℕ → List Open → Type 0
IsOf script file outer = outermost file outer ≡ script

module _ (script : List ℕ) (more : List Item) where
  abbrev extended : Outcome → Outcome
  extended = next_behind script more

  limit_by : (b : Bool) (file : List ℕ) (n : ℕ) (kept : Kept) (outcome longest : Outcome) →
      longest ≡ extended outcome →
      (if b then longest else Refuses file n Commands kept)
      ≡ extended (if b then outcome else Refuses file n Commands kept)
  limit_by true file n kept outcome longest is = is
  limit_by false file n kept outcome longest is = refl

  within : (file : List ℕ) (n : ℕ) (kept : Kept) (outcome longest : Outcome) → longest ≡ extended outcome →
      within_limit file n kept longest ≡ extended (within_limit file n kept outcome)
  within file n kept outcome longest is = limit_by (nat_lt kept.taken command_limit) file n kept outcome longest is

  given_by : (file : List ℕ) (n : ℕ) (kept : Kept) (text : Option (List ℕ)) (after : State) →
      given file n kept text (with_behind more after) ≡ extended (given file n kept text after)
  given_by file n kept None after = refl
  given_by file n kept (Some text) after = refl

  onward_by : (file : List ℕ) (n : ℕ) (kept : Kept) (after : Option Kept) (rest longest : Kept → Outcome) →
      ((k : Kept) → longest k ≡ extended (rest k)) →
      onward file n kept after longest ≡ extended (onward file n kept after rest)
  onward_by file n kept None rest longest are = refl
  onward_by file n kept (Some after) rest longest are = are after

  -- of the outermost body
  last_longer : (items : List Item) (kept : Kept) →
      in_body script (items ++ more) [] kept Ends ≡ extended (in_body script items [] kept Ends)
  last_longer [] kept = refl
  last_longer (Unclosed n ∷ items) kept = refl
  last_longer (Command line ∷ items) kept =
      within script line.number kept _ _
      (given_by script line.number kept _ (state_of script items [] (counted kept)))
  last_longer (Malformed line ∷ items) kept = within script line.number kept _ _ refl
  last_longer (Assign n assignment ∷ items) kept =
      within script n kept _ _
      (onward_by script n kept (assigned kept assignment) _ _ (λ after. last_longer items after))
  last_longer (Define n name lines ∷ items) kept =
      within script n kept _ _ (last_longer items (defined kept script name lines))

  -- of a body within others
  module _ (file : List ℕ) (next : Open) (outer : List Open) (around longest : Kept → Outcome)
      (are : (k : Kept) → longest k ≡ extended (around k)) where
    inner_longer : (items : List Item) (kept : Kept) →
        in_body file items (longer more (next ∷ outer)) kept longest
        ≡ extended (in_body file items (next ∷ outer) kept around)
    inner_longer [] kept = are kept
    inner_longer (Unclosed n ∷ items) kept = refl
    inner_longer (Command line ∷ items) kept =
        within file line.number kept _ _
        (given_by file line.number kept _ (state_of file items (next ∷ outer) (counted kept)))
    inner_longer (Malformed line ∷ items) kept = within file line.number kept _ _ refl
    inner_longer (Assign n assignment ∷ items) kept =
        within file n kept _ _
        (onward_by file n kept (assigned kept assignment) _ _ (λ after. inner_longer items after))
    inner_longer (Define n name lines ∷ items) kept =
        within file n kept _ _ (inner_longer items (defined kept file name lines))

  bodies_longer : (body : Open) (outer : List Open) (kept : Kept) → IsOf script body.file outer →
      in_bodies (longer more (body ∷ outer)) kept ≡ extended (in_bodies (body ∷ outer) kept)
  bodies_longer body [] kept is = rw is (last_longer body.items kept)
  bodies_longer body (next ∷ outer) kept is =
      inner_longer body.file next outer (in_bodies (next ∷ outer)) (in_bodies (longer more (next ∷ outer)))
      (λ k. bodies_longer next outer k is) body.items kept

  pub next_longer : (s : State) → IsOf script s.current.file s.outer →
      next_of (with_behind more s) ≡ extended (next_of s)
  next_longer s is = bodies_longer s.current s.outer s.kept is

  -- what comes next in a script whose outermost body is of a file leaves such a script
  abbrev KeepsOf : Outcome → Type 0
  KeepsOf outcome = IfGives outcome (λ flow. IsOf script flow.current.file flow.outer)

  keeps_limit : (b : Bool) (file : List ℕ) (n : ℕ) (kept : Kept) (outcome : Outcome) → KeepsOf outcome →
      KeepsOf (if b then outcome else Refuses file n Commands kept)
  keeps_limit true file n kept outcome keeps = keeps
  keeps_limit false file n kept outcome keeps = tt

  keeps_given : (file : List ℕ) (n : ℕ) (kept : Kept) (text : Option (List ℕ)) (after : State) →
      IsOf script after.current.file after.outer → KeepsOf (given file n kept text after)
  keeps_given file n kept None after is = tt
  keeps_given file n kept (Some text) after is = is

  keeps_onward : (file : List ℕ) (n : ℕ) (kept : Kept) (after : Option Kept) (rest : Kept → Outcome) →
      ((k : Kept) → KeepsOf (rest k)) → KeepsOf (onward file n kept after rest)
  keeps_onward file n kept None rest are = tt
  keeps_onward file n kept (Some after) rest are = are after

  module _ (file : List ℕ) (outer : List Open) (is : IsOf script file outer) (around : Kept → Outcome)
      (are : (k : Kept) → KeepsOf (around k)) where
    keeps_body : (items : List Item) (kept : Kept) → KeepsOf (in_body file items outer kept around)
    keeps_body [] kept = are kept
    keeps_body (Unclosed n ∷ items) kept = tt
    keeps_body (Command line ∷ items) kept =
        keeps_limit (nat_lt kept.taken command_limit) file line.number kept _
        (keeps_given file line.number kept _ (state_of file items outer (counted kept)) is)
    keeps_body (Malformed line ∷ items) kept =
        keeps_limit (nat_lt kept.taken command_limit) file line.number kept _ is
    keeps_body (Assign n assignment ∷ items) kept =
        keeps_limit (nat_lt kept.taken command_limit) file n kept _
        (keeps_onward file n kept (assigned kept assignment) _ (λ after. keeps_body items after))
    keeps_body (Define n name lines ∷ items) kept =
        keeps_limit (nat_lt kept.taken command_limit) file n kept _
        (keeps_body items (defined kept file name lines))

  keeps_bodies : (body : Open) (outer : List Open) (kept : Kept) → IsOf script body.file outer →
      KeepsOf (in_bodies (body ∷ outer) kept)
  keeps_bodies body [] kept is = keeps_body body.file [] is Ends (λ k. tt) body.items kept
  keeps_bodies body (next ∷ outer) kept is =
      keeps_body body.file (next ∷ outer) is (in_bodies (next ∷ outer)) (λ k. keeps_bodies next outer k is)
      body.items kept

  pub next_keeps : (s : State) → IsOf script s.current.file s.outer → KeepsOf (next_of s)
  next_keeps s is = keeps_bodies s.current s.outer s.kept is
