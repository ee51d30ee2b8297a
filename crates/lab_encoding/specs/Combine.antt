-- The forms of bytes, numbers, flags, options, lists and texts, and how forms are put together.
use Rattle.std.specs.Prelude.{◌≡◌, ◌<◌, ◌^◌, ◌⊎◌, ℕ, zero, suc, List, [], ◌∷◌, ◌++◌, length, take, drop, Option, Some}
use Rattle.std.specs.Prelude.{None, Bool, true, false, nat_lt, ◌==◌, if◌then◌else◌}
use Rattle.std.specs.List.{flat_map, zip, AllByRecursion}
use Rattle.std.specs.Str.{bytes_eq, is_utf8}
use Rattle.std.proofs.Common.{inl, inr}
use Rattle.byteorder.specs.Endian.{little_bytes, little_number}
use Rattle.lab_encoding.specs.Form.{Form}

-- what follows from a value, if there is one
infixl 10 ◌>>=◌
abbrev pub ◌>>=◌ : {A B : Type 0} → Option A → (A → Option B) → Option B
(Some x) >>= f = f x
None >>= f = None

-- ---- numbers

abbrev pub byte_at_front : List ℕ → Option (ℕ × List ℕ)
byte_at_front [] = None
byte_at_front (b ∷ rest) = Some (b, rest)

abbrev pub byte : Form ℕ
byte = record { spell = λ x. x ∷ []; Fits = λ x. x < 256; parse = byte_at_front }

-- n bytes, the lowest first
abbrev pub number : ℕ → Form ℕ
number n = record {
  spell = little_bytes n;
  Fits = λ x. x < 256 ^ n;
  parse = λ bytes. if nat_lt (length bytes) n then None else Some (little_number n (take n bytes), drop n bytes);
}

-- ---- structs

-- one value after the other
infixr 5 ◌⊗◌
abbrev pub ◌⊗◌ : {A B : Type 0} → Form A → Form B → Form (A × B)
f ⊗ g = record {
  spell = λ p. f.spell p.0 ++ g.spell p.1;
  Fits = λ p. f.Fits p.0 × g.Fits p.1;
  parse = λ bytes. f.parse bytes >>= λ a. g.parse a.1 >>= λ b. Some ((a.0, b.0), b.1);
}

-- one value after the other, where the first says how the second is spelled
abbrev pub depend : {A B : Type 0} → Form A → (A → Form B) → Form (A × B)
depend f g = record {
  spell = λ p. f.spell p.0 ++ (g p.0).spell p.1;
  Fits = λ p. f.Fits p.0 × (g p.0).Fits p.1;
  parse = λ bytes. f.parse bytes >>= λ a. (g a.0).parse a.1 >>= λ b. Some ((a.0, b.0), b.1);
}

-- the same bytes for values of another type, of which those that fit are shown as values of the first
abbrev pub shown : {X A : Type 0} → (X → Type 0) → (X → A) → (A → X) → Form A → Form X
shown Fits to from f = record {
  spell = λ x. f.spell (to x);
  Fits = Fits;
  parse = λ bytes. f.parse bytes >>= λ a. Some (from a.0, a.1);
}

-- the same, where each value is shown as one value
abbrev pub via : {X A : Type 0} → (X → A) → (A → X) → Form A → Form X
via to from f = shown (λ x. f.Fits (to x)) to from f

-- those values alone that pass
abbrev pub only : {X : Type 0} → (X → Bool) → Form X → Form X
only test f = record {
  spell = f.spell;
  Fits = λ x. f.Fits x × (test x ≡ true);
  parse = λ bytes. f.parse bytes >>= λ x. if test x.0 then Some x else None;
}

-- the bytes after a mark, if they begin with it
abbrev pub after : List ℕ → List ℕ → Option (List ℕ)
after mark bytes = if bytes_eq (take (length mark) bytes) mark then Some (drop (length mark) bytes) else None

-- a mark, and then the value
abbrev pub marked : {A : Type 0} → List ℕ → Form A → Form A
marked mark f = record {
  spell = λ a. mark ++ f.spell a;
  Fits = f.Fits;
  parse = λ bytes. after mark bytes >>= f.parse;
}

-- ---- enums

abbrev pub nothing : Form (Unit {0})
nothing = record { spell = λ u. []; Fits = λ u. Unit {0}; parse = λ bytes. Some (tt, bytes) }

-- the variant at this place, and no other
abbrev pub tagged : {A : Type 0} → ℕ → Form A → Form A
tagged tag f = record {
  spell = λ a. tag ∷ f.spell a;
  Fits = f.Fits;
  parse = λ bytes. byte_at_front bytes >>= λ t. if t.0 == tag then f.parse t.1 else None;
}

abbrev pub spell_choice : {A B : Type 0} → ℕ → Form A → Form B → A ⊎ B → List ℕ
spell_choice tag f g (inl a) = tag ∷ f.spell a
spell_choice tag f g (inr b) = g.spell b

abbrev pub FitsChoice : {A B : Type 0} → Form A → Form B → A ⊎ B → Type 0
FitsChoice f g (inl a) = f.Fits a
FitsChoice f g (inr b) = g.Fits b

-- the variant at this place, or one of the others
abbrev pub choice : {A B : Type 0} → ℕ → Form A → Form B → Form (A ⊎ B)
choice tag f g = record {
  spell = spell_choice tag f g;
  Fits = FitsChoice f g;
  parse = λ bytes. byte_at_front bytes >>= λ t.
      if t.0 == tag then (f.parse t.1 >>= λ a. Some (inl a.0, a.1)) else (g.parse bytes >>= λ b. Some (inr b.0, b.1));
}

-- the byte that is the number of a value; `from` gives the value of a number
abbrev pub numbered : {X : Type 0} → (X → ℕ) → (ℕ → Option X) → Form X
numbered to from = record {
  spell = λ x. to x ∷ [];
  Fits = λ x. Unit {0};
  parse = λ bytes. byte_at_front bytes >>= λ b. from b.0 >>= λ x. Some (x, b.1);
}

-- 0 or 1
abbrev pub to_flag : Bool → Unit {0} ⊎ Unit {0}
to_flag false = inl tt
to_flag true = inr tt

abbrev pub from_flag : Unit {0} ⊎ Unit {0} → Bool
from_flag (inl a) = false
from_flag (inr b) = true

abbrev pub flag : Form Bool
flag = via to_flag from_flag (choice 0 nothing (tagged 1 nothing))

-- 0, or 1 and the value
abbrev pub to_option : {A : Type 0} → Option A → Unit {0} ⊎ A
to_option None = inl tt
to_option (Some x) = inr x

abbrev pub from_option : {A : Type 0} → Unit {0} ⊎ A → Option A
from_option (inl a) = None
from_option (inr x) = Some x

abbrev pub option : {A : Type 0} → Form A → Form (Option A)
option f = via to_option from_option (choice 0 nothing (tagged 1 f))

-- ---- lists

unfoldable pub parse_times : {A : Type 0} → Form A → ℕ → List ℕ → Option (List A × List ℕ)
parse_times f zero bytes = Some ([], bytes)
parse_times f (suc n) bytes = f.parse bytes >>= λ a. parse_times f n a.1 >>= λ others. Some (a.0 ∷ others.0, others.1)

-- so many values, as in an array
abbrev pub times : {A : Type 0} → ℕ → Form A → Form (List A)
times n f = record {
  spell = flat_map f.spell;
  Fits = λ xs. (length xs ≡ n) × AllByRecursion f.Fits xs;
  parse = parse_times f n;
}

-- n bytes as they stand
abbrev pub bytes : ℕ → Form (List ℕ)
bytes n = record {
  spell = λ xs. xs;
  Fits = λ xs. (length xs ≡ n) × AllByRecursion (λ b. b < 256) xs;
  parse = λ text. if nat_lt (length text) n then None else Some (take n text, drop n text);
}

-- a count of 8 bytes, and so many values
abbrev pub list : {A : Type 0} → Form A → Form (List A)
list f = record {
  spell = λ xs. little_bytes 8 (length xs) ++ flat_map f.spell xs;
  Fits = λ xs. (length xs < 256 ^ 8) × AllByRecursion f.Fits xs;
  parse = λ bytes. (number 8).parse bytes >>= λ n. parse_times f n.0 n.1;
}

unfoldable pub parse_each : {K A : Type 0} → (K → Form A) → List K → List ℕ → Option (List A × List ℕ)
parse_each f [] bytes = Some ([], bytes)
parse_each f (k ∷ ks) bytes =
    (f k).parse bytes >>= λ a. parse_each f ks a.1 >>= λ others. Some (a.0 ∷ others.0, others.1)

-- for each key a value, which is spelled as the key says
abbrev pub each : {K A : Type 0} → (K → Form A) → List K → Form (List A)
each f ks = record {
  spell = λ xs. flat_map (λ p. (f p.0).spell p.1) (zip ks xs);
  Fits = λ xs. (length xs ≡ length ks) × AllByRecursion (λ p. (f p.0).Fits p.1) (zip ks xs);
  parse = parse_each f ks;
}

-- a list of bytes that are UTF-8
unfoldable pub text : Form (List ℕ)
text = only is_utf8 (list byte)
