-- Reading a text.
use Rattle.std.proofs.Common.{◌≡◌, ℕ, List, Bool, true, false, Some, None, refl}
use Rattle.std.specs.Str.{IsUtf8, is_utf8}
use Rattle.std.proofs.lemmas.Str.{IsUtf8-from_is_utf8, is_utf8-from_IsUtf8}
use Rattle.lab_encoding.specs.Combine.{byte, list, text}

-- a text's bytes are read as the text
pub text_read : (old bytes rest : List ℕ) → (list byte).parse old ≡ Some (bytes, rest) → IsUtf8 bytes →
    text.parse old ≡ Some (bytes, rest)
unfolding text
text_read old bytes rest e u = rw (e, is_utf8-from_IsUtf8 bytes u) refl

-- other bytes are refused
pub text_refused : (old bytes rest : List ℕ) → (list byte).parse old ≡ Some (bytes, rest) → ¬ (IsUtf8 bytes) →
    text.parse old ≡ None
unfolding text
text_refused old bytes rest e u = rw (e, not_utf8 (is_utf8 bytes) refl) refl
  where
    not_utf8 : (b : Bool) → is_utf8 bytes ≡ b → is_utf8 bytes ≡ false
    not_utf8 true h = absurd (u (IsUtf8-from_is_utf8 bytes h))
    not_utf8 false h = h
