-- What a spelling is.
use Rattle.std.specs.Prelude.{◌≡◌, ◌<◌, ℕ, List, ◌++◌, slice_index, Option, Some}

-- the spelling of each value, which values there are, and the value that stands at the front of bytes, with the bytes
-- after it
pub record Form (X : Type 0) : Type 1 where
  pub spell : X → List ℕ
  pub Fits : X → Type 0
  pub parse : List ℕ → Option (X × List ℕ)

abbrev pub IsBytes : List ℕ → Type 0
IsBytes bytes = (i : ℕ) → slice_index bytes i < 256

-- the bytes are the spelling of a value, and others after it
abbrev pub Spells : {X : Type 0} → Form X → List ℕ → X × List ℕ → Type 0
Spells f bytes y = (bytes ≡ f.spell y.0 ++ y.1) × f.Fits y.0

-- what is read is spelled so, and what is spelled so is read, whatever follows it
pub record IsLawful {X : Type 0} (f : Form X) : Type 0 where
  pub takes : (bytes : List ℕ) (y : X × List ℕ) → IsBytes bytes → f.parse bytes ≡ Some y → Spells f bytes y
  pub again : (x : X) (rest : List ℕ) → f.Fits x → f.parse (f.spell x ++ rest) ≡ Some (x, rest)
