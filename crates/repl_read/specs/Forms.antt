-- A reading of a part of a text: what it says, or the cause of its fault.
use Rattle.std.specs.Prelude.{ℕ, Bool, true, false, List, [], ◌∷◌, Option, Some, None, Result, Ok, Err}
use Rattle.repl_read.specs.declared.fault.ReadCause.{ReadCause}
use Rattle.repl_read.specs.declared.fault.ReadCause.TheVariants.{Form, Feature}

-- a step of a `do` block, which goes on where there is no fault
infixl 10 ◌>>=◌
abbrev pub ◌>>=◌ : {A B : Type 0} → Result A ReadCause → (A → Result B ReadCause) → Result B ReadCause
(Ok x) >>= f = f x
(Err cause) >>= f = Err cause

abbrev pub require : Bool → Result (Unit {0}) ReadCause
require true = Ok tt
require false = Err Form

-- a feature that is left out is told before a fault of the form
abbrev pub judged : {X : Type 0} → Bool → Result X ReadCause → Result X ReadCause
judged true form = Err Feature
judged false form = form

-- the number that a word must be
abbrev pub number : Option ℕ → Result ℕ ReadCause
number (Some n) = Ok n
number None = Err Form

-- what each part of a list says
abbrev pub all_of : {X Y : Type 0} → (X → Result Y ReadCause) → List X → Result (List Y) ReadCause
all_of f [] = Ok []
all_of f (x ∷ xs) = do
  y ← f x
  ys ← all_of f xs
  Ok (y ∷ ys)
