-- The course of the assembler over the lines, from the first to the last.
use Rattle.std.specs.Prelude.{◌≡◌, ℕ, ◌+◌, ◌==◌, Bool, false, List, [], ◌∷◌, ◌++◌, if◌then◌else◌, Option, Some, None}
use Rattle.std.specs.Prelude.{Result, Ok, Err}
use Rattle.std.specs.declared.vec.Vec.{Vec}
use Rattle.std.specs.declared.alloc.Global.{Global}
use Rattle.rv_asm.specs.declared.fault.AsmCause.{AsmCause}
use Rattle.rv_asm.specs.declared.fault.AsmFault.{AsmFault}
use Rattle.rv_asm.specs.declared.fault.AsmFault.TheVariants.{Line, Memory}
use Rattle.rv_asm.specs.Places.{is_label}
use Rattle.rv_asm.specs.Lines.{gives_word, label_of, plain_word, labelled_word, line_word}

-- the place of the first line that gives this label, where the first line has this address
abbrev pub place_from : ℕ → List (List ℕ) → List ℕ → Option ℕ
place_from address [] name = None
place_from address (line ∷ lines) name =
    if gives_word line
    then (if is_label name (label_of line) then Some address else place_from (address + 4) lines name)
    else place_from address lines name

-- whether this is the place
abbrev pub is_here : ℕ → Option ℕ → Bool
is_here here None = false
is_here here (Some there) = there == here

-- whether a label has its place here, so that no earlier line gives it
abbrev pub is_first : (List ℕ → Option ℕ) → ℕ → List ℕ → Bool
is_first places here name = is_here here (places name)

-- the word of a statement with or without a label
abbrev pub statement_word : (List ℕ → Option ℕ) → ℕ → Option (List ℕ) → List ℕ → Result ℕ AsmCause
statement_word places here None statement = plain_word places here statement
statement_word places here (Some label) statement =
    labelled_word places here (is_first places here label) label statement

-- the word of a line at this address
abbrev pub word_from : (List ℕ → Option ℕ) → ℕ → List ℕ → Result ℕ AsmCause
word_from places here line = line_word places here (is_first places here) line

-- the fault of a line is told with the line's number
abbrev pub at_line : ℕ → Result ℕ AsmCause → Result ℕ AsmFault
at_line n (Ok word) = Ok word
at_line n (Err cause) = Err (Line n cause)

infixl 10 ◌>>=◌
abbrev pub ◌>>=◌ : {A B : Type 0} → Result A AsmFault → (A → Result B AsmFault) → Result B AsmFault
(Ok x) >>= f = f x
(Err fault) >>= f = Err fault

-- the words of lines, the first of which has this number and this address
abbrev pub words_from : (List ℕ → Option ℕ) → ℕ → ℕ → List (List ℕ) → Result (List ℕ) AsmFault
words_from places n address [] = Ok []
words_from places n address (line ∷ lines) =
    if gives_word line
    then (at_line n (word_from places address line)
    >>= λ word. words_from places (n + 1) (address + 4) lines
    >>= λ words. Ok (word ∷ words))
    else words_from places (n + 1) address lines

-- the fault that is meant, or memory ran out
abbrev pub Fails : {T : Type 0} → Result T AsmFault → AsmFault → Type 0
Fails meant (Line n cause) = meant ≡ Err (Line n cause)
Fails meant Memory = Unit {0}

-- the word that is meant is put after the others, unless that fails
abbrev pub Pushes : {T : Type 0} → List ℕ → List ℕ → Result ℕ AsmFault → Result T AsmFault → Type 0
Pushes old new meant (Ok done) = (word : ℕ) × (meant ≡ Ok word) × (new ≡ old ++ word ∷ [])
Pushes old new meant (Err fault) = Fails meant fault

-- the words that are meant, unless that fails
abbrev pub Gives : Result (Vec ℕ Global) AsmFault → Result (List ℕ) AsmFault → Type 0
Gives (Ok words) meant = meant ≡ Ok words.items
Gives (Err fault) meant = Fails meant fault
