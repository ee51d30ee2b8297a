-- The words of a text, or its first fault.
use Rattle.std.specs.Prelude.{◌≡◌, ℕ, ◌+◌, ◌*◌, ◌==◌, ◌&&◌, not, Bool, true, false, List, map, filter, take, find}
use Rattle.std.specs.Prelude.{Option, Some, Result, Ok, Err, count_by}
use Rattle.std.specs.Option.{option_map}
use Rattle.std.specs.List.{slice_split, list_any, enumerate_from}
use Rattle.std.specs.Str.{byte}
use Rattle.std.specs.declared.vec.Vec.{Vec}
use Rattle.std.specs.declared.alloc.Global.{Global}
use Rattle.rv_asm.specs.Places.{is_label}
use Rattle.rv_asm.specs.declared.fault.AsmCause.{AsmCause}
use Rattle.rv_asm.specs.declared.fault.AsmFault.{AsmFault}
use Rattle.rv_asm.specs.declared.fault.AsmFault.TheVariants.{Line, Memory}
use Rattle.rv_asm.specs.Lines.{gives_word, label_of, line_word}

-- the lines of a text, each of which ends at a line feed or at the text's end
abbrev pub lines_of : List ℕ → List (List ℕ)
lines_of text = slice_split (λ b. b == byte "\n") text

-- the address of the line at i: four times the number of words before it
abbrev pub address_of : List (List ℕ) → ℕ → ℕ
address_of lines i = 4 * count_by gives_word (take i lines)

-- whether a line gives this label
abbrev pub gives_label : List ℕ → List ℕ → Bool
gives_label name line = gives_word line && is_label name (label_of line)

-- the place of a label: the address of the first line that gives it
abbrev pub place_of : List (List ℕ) → List ℕ → Option ℕ
place_of lines name =
    option_map (λ x. address_of lines x.0) (find (λ x. gives_label name x.1) (enumerate_from 0 lines))

-- whether no line before the one at i gives this label
abbrev pub is_new : List (List ℕ) → ℕ → List ℕ → Bool
is_new lines i name = not (list_any (gives_label name) (take i lines))

-- the word of the line at i, or its first fault
abbrev pub word_at : List (List ℕ) → ℕ → List ℕ → Result ℕ AsmCause
word_at lines i line = line_word (place_of lines) (address_of lines i) (is_new lines i) line

-- what the lines give that are not blank, each with its number from 1 on
abbrev pub given : List (List ℕ) → List (ℕ × Result ℕ AsmCause)
given lines =
    map (λ x. (x.0 + 1, word_at lines x.0 x.1)) (filter (λ x. gives_word x.1) (enumerate_from 0 lines))

abbrev pub is_fault : Result ℕ AsmCause → Bool
is_fault (Ok word) = false
is_fault (Err cause) = true

-- a text assembles to the words of all its lines, or to the first line with a fault
abbrev pub Assembles : List ℕ → Result (Vec ℕ Global) AsmFault → Type 0
Assembles text (Ok words) = map (λ x. x.1) (given (lines_of text)) ≡ map (λ word. Ok word) words.items
Assembles text (Err (Line n cause)) = find (λ x. is_fault x.1) (given (lines_of text)) ≡ Some (n, Err cause)
Assembles text (Err Memory) = Unit {0}
