-- How many commands a script has taken where it comes to a line.
use Rattle.std.proofs.Common.{◌≡◌, ℕ, ◌<◌, ◌≤◌, nat_lt, Bool, true, false, cond, List, [], ◌∷◌}
use Rattle.std.proofs.Common.{Option, None, Some, refl, arith, subst}
use Rattle.std.specs.Option.{option_map}
use Rattle.std.proofs.lemmas.Bool.Decides.{nat_tests}
use Rattle.resc_vars.specs.declared.answer.Next.{Next}
use Rattle.resc_vars.specs.declared.answer.Next.TheVariants as next
use Rattle.resc_vars.specs.declared.cause.ScriptCause.TheVariants as causes
use Rattle.resc_vars.specs.declared.item.Item.{Item}
use Rattle.resc_vars.specs.declared.item.Item.TheVariants.{Command, Malformed, Assign, Define, Unclosed}
use Rattle.resc_vars.specs.Script.{Open, Kept, State, Outcome, Gives, Ends, Refuses, command_limit, counted, given}
use Rattle.resc_vars.specs.Script.{defined, onward}
use Rattle.resc_vars.specs.Script.{within_limit, state_of, in_body, in_bodies, next_of, Says, TakesCommands}
use Rattle.resc_vars.specs.Variables.{command_text, stands_for, with_value}

-- where a line comes, more than so many commands were taken, and at most 100,000
abbrev Counts : ℕ → Outcome → Type 0
Counts n (Gives file at text after) = (n < after.kept.taken) × (after.kept.taken ≤ 100000)
Counts n (Ends kept) = Unit {0}
Counts n (Refuses file at cause kept) = Unit {0}

limited :
    (n : ℕ) (file : List ℕ) (at : ℕ) (kept : Kept) (outcome : Outcome) →
    (kept.taken < 100000 → Counts n outcome) → Counts n (within_limit file at kept outcome)
limited n file at kept outcome counts =
    tested (nat_lt kept.taken command_limit) (λ less. counts (grind (arith, nat_tests, less)))
  where
    tested :
        (b : Bool) → (b ≡ true → Counts n outcome) → Counts n (cond b outcome (Refuses file at causes.Commands kept))
    tested true is = is refl
    tested false is = tt

given_counts :
    (n : ℕ) (file : List ℕ) (at : ℕ) (kept : Kept) (text : Option (List ℕ)) (after : State) →
    n < after.kept.taken → after.kept.taken ≤ 100000 → Counts n (given file at kept text after)
given_counts n file at kept None after more most = tt
given_counts n file at kept (Some text) after more most = (more, most)

onward_counts :
    {A : Type 0} (n : ℕ) (file : List ℕ) (at : ℕ) (kept : Kept) (value : Option A) (after : A → Kept)
    (rest : Kept → Outcome) →
    ((x : A) → Counts n (rest (after x))) → Counts n (onward file at kept (option_map after value) rest)
onward_counts n file at kept None after rest counts = tt
onward_counts n file at kept (Some x) after rest counts = counts x

body_counts :
    (n : ℕ) (file : List ℕ) (items : List Item) (outer : List Open) (kept : Kept) (around : Kept → Outcome) →
    n ≤ kept.taken → ((k : Kept) → n ≤ k.taken → Counts n (around k)) →
    Counts n (in_body file items outer kept around)
body_counts n file [] outer kept around least counts = counts kept least
body_counts n file (Unclosed at ∷ items) outer kept around least counts = tt
body_counts n file (Command line ∷ items) outer kept around least counts =
    limited n file line.number kept _ (λ less.
    given_counts n file line.number kept (command_text kept.variables line.text)
    (state_of file items outer (counted kept)) (omega arith) (omega arith))
body_counts n file (Malformed line ∷ items) outer kept around least counts =
    limited n file line.number kept _ (λ less. (omega arith, omega arith))
body_counts n file (Assign at assignment ∷ items) outer kept around least counts =
    limited n file at kept _ (λ less.
    onward_counts n file at kept (stands_for kept.variables assignment.value)
    (λ value. record (counted kept) {
      variables = with_value kept.variables assignment.name assignment.only_if_unset value;
    })
    (λ after. in_body file items outer after around)
    (λ value. body_counts n file items outer _ around (omega arith) counts))
body_counts n file (Define at name lines ∷ items) outer kept around least counts =
    limited n file at kept _ (λ less.
    body_counts n file items outer (defined kept file name lines) around (omega arith) counts)

bodies_counts : (n : ℕ) (bodies : List Open) (kept : Kept) → n ≤ kept.taken → Counts n (in_bodies bodies kept)
bodies_counts n [] kept least = tt
bodies_counts n (body ∷ outer) kept least =
    body_counts n body.file body.items outer kept (in_bodies outer) least (λ k more. bodies_counts n outer k more)

-- what is answered for the next line
pub says_counts :
    (answer : Next) (s after : State) → Says answer after (next_of s) → TakesCommands answer s after
says_counts (next.Line file n text) s after is =
    let C : Outcome → Type 0 = Counts s.kept.taken in
    subst C is (bodies_counts s.kept.taken (s.current ∷ s.outer) s.kept (omega arith))
says_counts next.End s after is = tt
says_counts (next.Fault file n cause) s after is = tt
says_counts next.Memory s after is = tt
