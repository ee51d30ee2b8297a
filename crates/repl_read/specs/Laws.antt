-- What the laws of platform text speak of.
use Rattle.std.specs.Prelude.{◌≡◌, ℕ, ◌<◌, ◌⊎◌, ◌==◌, ◌&&◌, not, replicate, Bool, List, Result}
use Rattle.std.specs.Prelude.{Ok, Err}
use Rattle.std.specs.Str.{byte}
use Rattle.repl_read.specs.declared.fault.PlatCause.TheVariants.{Form, Feature}
use Rattle.repl_read.specs.Comments.{quote}
use Rattle.repl_read.specs.Platform.{LineFault}

-- a sign that does not end a line
abbrev pub stays_on_line : ℕ → Bool
stays_on_line b = not (b == byte "\n") && not (b == byte "\r")

-- a sign of a string that is closed on its line
abbrev pub stays_in_string : ℕ → Bool
stays_in_string b = not (b == quote) && not (b == byte "\n")

abbrev pub blanks : ℕ → List ℕ
blanks n = replicate n (byte " ")

-- a fault, if there is one, is of the form or a feature that is left out, at a line from 1 on
abbrev pub IsFault : {X : Type 0} → Result X LineFault → Type 0
IsFault (Ok x) = Unit {0}
IsFault (Err fault) = (0 < fault.0) × ((fault.1 ≡ Form) ⊎ (fault.1 ≡ Feature))
