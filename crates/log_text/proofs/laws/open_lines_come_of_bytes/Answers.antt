use Rattle.std.proofs.Common.{◌≡◌, ℕ, Bool, true, false, List, [], ◌∷◌, ◌++◌, All}
use Rattle.std.specs.Prelude.{IsTrue, if◌then◌else◌}
use Rattle.std.proofs.lemmas.List.Elements.{All-nil, All-cons, All-head, All-tail, All-append, All-filter}
use Rattle.lab_num.specs.declared.key.Member.{Member}
use Rattle.lab_num.specs.declared.number.Micros.{Micros}
use Rattle.dev_core.specs.declared.post.What.TheVariants.{Byte, Sent, Read, Write}
use Rattle.log_merge.specs.declared.item.LogItem.{LogItem}
use Rattle.log_merge.specs.declared.item.LogItem.TheVariants.{Slot, Note, Pause}
use Rattle.log_text.specs.declared.line.OpenLine.{OpenLine}
use Rattle.log_text.specs.Line.{gathered, higher, is_ending, is_lower, left_open, lower, own, with_byte}
use Rattle.log_text.specs.Log.{device_of, open_lines, opened, IsOnBytes}
use Rattle.log_text.proofs.Rising.{own_member}
use Rattle.log_text.proofs.laws.open_lines_come_of_bytes.Goals as goal

-- each line passes the test
abbrev Passes : (Member → Micros → Bool) → OpenLine → Type 0
Passes p line = IsTrue (p line.member line.at)

-- the line of a byte, if it is left open
pass_own :
    (p : Member → Micros → Bool) (line : OpenLine) (m : Member) (at : Micros) (byte : ℕ) → line.member ≡ m →
    IsTrue (p m at) → All (Passes p) (left_open line at byte)
pass_own p line m at byte is passes = by_test (is_ending line byte)
  where
    by_test : (ends : Bool) → All (Passes p) (if ends then [] else gathered line at byte ∷ [])
    by_test true = All-nil (Passes p)
    by_test false = All-cons (Passes p) (gathered line at byte) [] (rw is passes) (All-nil (Passes p))

pass_with_byte :
    (p : Member → Micros → Bool) (lines : List OpenLine) (m : Member) (at : Micros) (byte : ℕ) → All (Passes p) lines →
    IsTrue (p m at) → All (Passes p) (with_byte lines m at byte)
pass_with_byte p lines m at byte held passes =
    All-append (Passes p) (lower m lines ++ left_open (own m lines) at byte) (higher m lines)
    (All-append (Passes p) (lower m lines) (left_open (own m lines) at byte)
    (All-filter (λ line. is_lower line.member m) (Passes p) lines held)
    (pass_own p (own m lines) m at byte (own_member m lines) passes))
    (All-filter (λ line. is_lower m line.member) (Passes p) lines held)

pass_opened :
    (p : Member → Micros → Bool) (lines : List OpenLine) (item : LogItem) → All (Passes p) lines → IsOnBytes p item →
    All (Passes p) (opened lines item)
pass_opened p lines (Slot from (Byte dev byte)) held passes =
    pass_with_byte p lines (device_of from dev) from.at byte held passes
pass_opened p lines (Slot from (Sent dev frame)) held passes = held
pass_opened p lines (Slot from (Read width at)) held passes = held
pass_opened p lines (Slot from (Write width at value)) held passes = held
pass_opened p lines (Note at m said) held passes = held
pass_opened p lines (Pause at m finish) held passes = held

pass_open_lines :
    (p : Member → Micros → Bool) (lines : List OpenLine) (items : List LogItem) → All (Passes p) lines →
    All (IsOnBytes p) items → All (Passes p) (open_lines lines items)
pass_open_lines p lines [] held bytes = held
pass_open_lines p lines (item ∷ items) held bytes =
    pass_open_lines p (opened lines item) items
    (pass_opened p lines item held (All-head (IsOnBytes p) item items bytes)) (All-tail (IsOnBytes p) item items bytes)

pub returns : goal.returns
returns c = pass_open_lines
