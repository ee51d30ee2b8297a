-- What the bytes of a file say of its text.
use Rattle.std.proofs.Common.{◌≡◌, ◌+◌, ◌≤◌, ◌<◌, ◌==◌, ℕ, List, length, take, count_by, Bool, true, false}
use Rattle.std.proofs.Common.{nat_lt, Option, None, Some, IsSomeAnd, Err, refl, arith}
use Rattle.std.proofs.lemmas.Bool.Decides.{nat_tests}
use Rattle.std.specs.Str.{IsUtf8, is_utf8}
use Rattle.std.specs.Str.Lossy.{utf8_valid_len}
use Rattle.std.proofs.lemmas.Str.{is_utf8-from_IsUtf8, IsUtf8-from_is_utf8}
use Rattle.lab_io.specs.Asked.{AskedNames}
use Rattle.lab_io.specs.Whole.{FileText, Broken, Large, Readable, bad_line, bytes_text, file_text, text_fault}
use Rattle.lab_io.specs.Whole.{IsFileRead, IsTextRead}
use Rattle.lab_io.specs.declared.whole.ReadFault.{ReadFault}
use Rattle.lab_io.specs.declared.whole.ReadFault.TheVariants.{Unread, TooLarge, Memory}

-- ---- bytes

pub text_of : (bytes text : List ℕ) → text ≡ bytes → IsUtf8 bytes → bytes_text bytes ≡ Readable text
text_of bytes text same utf8 = rw (is_utf8-from_IsUtf8 bytes utf8, same) refl

no_utf8 : (bytes : List ℕ) (b : Bool) → is_utf8 bytes ≡ b → (IsUtf8 bytes → ⊥) → b ≡ false
no_utf8 bytes true is not = absurd (not (IsUtf8-from_is_utf8 bytes is))
no_utf8 bytes false is not = refl

pub broken_at : (bytes : List ℕ) (at line : ℕ) → (IsUtf8 bytes → ⊥) → at ≡ utf8_valid_len bytes →
    line ≡ count_by (λ byte. byte == 10) (take at bytes) + 1 → bytes_text bytes ≡ Broken line
unfolding bad_line
broken_at bytes at line not place is = rw (no_utf8 bytes _ refl not, is, place) refl

-- ---- files

-- a file of these bytes, which are few enough
pub small_file : (there : Option (List ℕ)) (bytes : List ℕ) (text : FileText) → there ≡ Some bytes →
    length bytes ≤ 16777216 → bytes_text bytes ≡ text → file_text there ≡ text
small_file there bytes text is few reads =
    let small : nat_lt 16777216 (length bytes) ≡ false = grind (arith, nat_tests) in rw (is, small) reads

large_file : (there : Option (List ℕ)) → IsSomeAnd there (λ bytes. 16777216 < length bytes) → file_text there ≡ Large
large_file None large = absurd large
large_file (Some bytes) large =
    let much : nat_lt 16777216 (length bytes) ≡ true = grind (arith, nat_tests, large) in rw much refl

-- where its bytes are not read, its text is not
pub unread_text : (there : Option (List ℕ)) (name : List ℕ) (fault : ReadFault) (log log' : AskedNames) →
    IsFileRead there name (Err fault) log log' → IsTextRead there name (Err (text_fault fault)) log log'
unread_text there name Unread log log' read = read
unread_text there name TooLarge log log' read = (large_file there read.0, read.1)
unread_text there name Memory log log' read = read
