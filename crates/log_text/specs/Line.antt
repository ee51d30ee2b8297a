-- The lines of UARTs that have bytes and are not ended.
use Rattle.std.specs.Prelude.{ℕ, ◌==◌, nat_le, nat_lt, ◌&&◌, ◌||◌, not, Bool, true, if◌then◌else◌, List, [], ◌∷◌, ◌++◌}
use Rattle.std.specs.Prelude.{length, filter, find, unwrap_or}
use Rattle.std.specs.List.{list_all, list_any}
use Rattle.lab_num.specs.declared.key.Member.{Member}
use Rattle.lab_num.specs.declared.number.Micros.{Micros}
use Rattle.lab_num.specs.Key.{same_member}
use Rattle.log_text.specs.declared.line.OpenLine.{OpenLine}

-- a line that has bytes and is not ended: 1 to 127 bytes, none of them a line feed
abbrev pub is_unended : OpenLine → Bool
is_unended line =
    nat_le 1 (length line.bytes) && nat_le (length line.bytes) 127
    && not (list_any (λ byte. byte == 10) line.bytes)

-- members come in order of their boards, and then of their devices
abbrev pub is_lower : Member → Member → Bool
is_lower a b = nat_lt a.board.0 b.board.0 || (a.board.0 == b.board.0 && nat_lt a.dev b.dev)

-- the member of each line is lower than those of all lines after it
abbrev pub rise : List OpenLine → Bool
rise [] = true
rise (line ∷ lines) = list_all (λ later. is_lower line.member later.member) lines && rise lines

-- lines that stand open together
abbrev pub are_unended : List OpenLine → Bool
are_unended lines = list_all is_unended lines && rise lines

-- a line that has not begun
abbrev pub blank : Member → OpenLine
blank m = record { member = m; at = record { 0 = 0 }; bytes = [] }

-- the open lines of lower members, a member's own, and the open lines of higher members
abbrev pub lower : Member → List OpenLine → List OpenLine
lower m lines = filter (λ line. is_lower line.member m) lines

abbrev pub own : Member → List OpenLine → OpenLine
own m lines = unwrap_or (find (λ line. same_member line.member m) lines) (blank m)

abbrev pub higher : Member → List OpenLine → List OpenLine
higher m lines = filter (λ line. is_lower m line.member) lines

-- a line feed ends a line, and so does its 128th byte
abbrev pub is_ending : OpenLine → ℕ → Bool
is_ending line byte = (byte == 10) || nat_le 127 (length line.bytes)

-- a line with one byte more, sent at this time. A line feed is no part of it.
abbrev pub gathered : OpenLine → Micros → ℕ → OpenLine
gathered line at byte = record line { at = at; bytes = if byte == 10 then line.bytes else line.bytes ++ byte ∷ [] }

-- what is left open of a line after one byte more
abbrev pub left_open : OpenLine → Micros → ℕ → List OpenLine
left_open line at byte = if is_ending line byte then [] else gathered line at byte ∷ []

-- the open lines after a byte of a member
abbrev pub with_byte : List OpenLine → Member → Micros → ℕ → List OpenLine
with_byte lines m at byte = lower m lines ++ left_open (own m lines) at byte ++ higher m lines
