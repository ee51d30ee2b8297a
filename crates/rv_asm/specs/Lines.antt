-- The word of a line, or the first of its faults in the order Name, Form, Label, Range.
use Rattle.std.specs.Prelude.{ℕ, ◌-◌, ◌^◌, ◌==◌, nat_lt, length, drop, Bool, true, false, not, List, if◌then◌else◌}
use Rattle.std.specs.Prelude.{Option, Some, None, Result, Ok, Err}
use Rattle.std.specs.Option.{option_map, ok_or}
use Rattle.std.specs.List.{position_or_len, before_first}
use Rattle.std.specs.Str.{byte}
use Rattle.rv_decode.specs.declared.instruction.Op.{Op}
use Rattle.rv_asm.specs.declared.mnemonics.Mnemonic.{Mnemonic}
use Rattle.rv_asm.specs.declared.mnemonics.Mnemonic.TheVariants.{Word, Instruction}
use Rattle.rv_asm.specs.declared.numbers.Number.{Number}
use Rattle.rv_asm.specs.declared.shapes.Shape.{Shape}
use Rattle.rv_asm.specs.declared.shapes.Shape.TheVariants.{Registers, Immediate, Shift, Load, Store, Branch, Upper}
use Rattle.rv_asm.specs.declared.shapes.Shape.TheVariants.{Jump, Csr, CsrImmediate, Bare}
use Rattle.rv_asm.specs.declared.fault.AsmCause.{AsmCause}
use Rattle.rv_asm.specs.declared.fault.AsmCause.TheVariants.{Name, Form, Label, Range}
use Rattle.rv_asm.specs.Encoded.{word_with}
use Rattle.lab_num.specs.Name.{is_identifier}
use Rattle.rv_asm.specs.Texts.{is_blank, trimmed, cut, with_cut, code_of}
use Rattle.rv_asm.specs.Numbers.{number_of, even_in_field}
use Rattle.rv_asm.specs.Mnemonics.{mnemonic_of}
use Rattle.rv_asm.specs.Shapes.{shape_of}
use Rattle.rv_asm.specs.Operands.{register_and, two_registers_and, registers_word, immediate_word, load_word}
use Rattle.rv_asm.specs.Operands.{store_word, upper_word, csr_word, csr_immediate_word, bare_word, directive_word}

infixl 10 ◌>>=◌
abbrev pub ◌>>=◌ : {A B : Type 0} → Result A AsmCause → (A → Result B AsmCause) → Result B AsmCause
(Ok x) >>= f = f x
(Err cause) >>= f = Err cause

-- how far it is from here to there, in bytes
abbrev pub distance : ℕ → ℕ → Number
distance here there =
    if nat_lt there here
    then record { negative = true; magnitude = here - there }
    else record { negative = false; magnitude = there - here }

-- the offset of a label, by the address that it has
abbrev pub offset_by : ℕ → Option ℕ → Result Number AsmCause
offset_by here None = Err Label
offset_by here (Some there) = Ok (distance here there)

-- the offset that a target gives, which is a number or else a name
abbrev pub target_by : (List ℕ → Option ℕ) → ℕ → List ℕ → Option Number → Result Number AsmCause
target_by places here text None = if is_identifier text then offset_by here (places text) else Err Form
target_by places here text (Some number) = Ok number

-- the offset of a target, where labels have these places
unfoldable pub target_of : (List ℕ → Option ℕ) → ℕ → List ℕ → Result Number AsmCause
target_of places here text = target_by places here text (number_of text)

-- the offset of a target, as 32 bits if it is even and from -least to greatest
abbrev pub offset_in : (List ℕ → Option ℕ) → ℕ → ℕ → ℕ → List ℕ → Result (Option ℕ) AsmCause
offset_in places here least greatest text = do
  offset ← target_of places here text
  Ok (even_in_field least greatest offset)

-- `rs1, rs2, target`, an even offset of 13 bits
unfoldable pub branch_word : (List ℕ → Option ℕ) → ℕ → Op → List ℕ → Result (Option ℕ) AsmCause
branch_word places here op text = do
  operands ← ok_or (two_registers_and text) Form
  imm ← offset_in places here 4096 4095 operands.2
  Ok (word_with op 0 operands.0 operands.1 imm)

-- `rd, target`, an even offset of 21 bits
unfoldable pub jump_word : (List ℕ → Option ℕ) → ℕ → Op → List ℕ → Result (Option ℕ) AsmCause
jump_word places here op text = do
  rd ← ok_or (register_and text) Form
  imm ← offset_in places here (2 ^ 20) (2 ^ 20 - 1) rd.1
  Ok (word_with op rd.0 0 0 imm)

-- the word of an instruction's operands, if its number is in its field
abbrev pub operands_word : (List ℕ → Option ℕ) → ℕ → Op → List ℕ → Shape → Result (Option ℕ) AsmCause
operands_word places here op text Registers = ok_or (registers_word op text) Form
operands_word places here op text Immediate = ok_or (immediate_word op 2048 2047 text) Form
operands_word places here op text Shift = ok_or (immediate_word op 0 31 text) Form
operands_word places here op text Load = ok_or (load_word op text) Form
operands_word places here op text Store = ok_or (store_word op text) Form
operands_word places here op text Branch = branch_word places here op text
operands_word places here op text Upper = ok_or (upper_word op text) Form
operands_word places here op text Jump = jump_word places here op text
operands_word places here op text Csr = ok_or (csr_word op text) Form
operands_word places here op text CsrImmediate = ok_or (csr_immediate_word op text) Form
operands_word places here op text Bare = ok_or (bare_word op text) Form

abbrev pub word_by : (List ℕ → Option ℕ) → ℕ → List ℕ → Mnemonic → Result (Option ℕ) AsmCause
word_by places here text Word = ok_or (directive_word text) Form
word_by places here text (Instruction op) = operands_word places here op text (shape_of op)

-- the first word of a statement
unfoldable pub mnemonic_in : List ℕ → Result Mnemonic AsmCause
mnemonic_in statement =
    if length statement == 0 then Err Form else ok_or (mnemonic_of (before_first is_blank statement)) Name

-- what follows it
unfoldable pub operands_in : List ℕ → List ℕ
operands_in statement = trimmed (drop (position_or_len is_blank statement) statement)

-- a line without a label
unfoldable pub plain_word : (List ℕ → Option ℕ) → ℕ → List ℕ → Result ℕ AsmCause
plain_word places here statement = do
  mnemonic ← mnemonic_in statement
  word ← word_by places here (operands_in statement) mnemonic
  ok_or word Range

-- a line with a label, which is new or given by an earlier line
unfoldable pub labelled_word : (List ℕ → Option ℕ) → ℕ → Bool → List ℕ → List ℕ → Result ℕ AsmCause
labelled_word places here is_new label statement = do
  mnemonic ← mnemonic_in statement
  name ← (if is_identifier label then Ok label else Err Form)
  word ← word_by places here (operands_in statement) mnemonic
  fitting ← (if is_new then Ok word else Err Label)
  ok_or fitting Range

-- the label of a line, if it has one
abbrev pub label_of : List ℕ → Option (List ℕ)
label_of line = option_map (λ x. trimmed x.0) (cut (byte ":") (code_of line))

-- the word of a line that is not blank, where labels have these places and these are new
unfoldable pub line_word : (List ℕ → Option ℕ) → ℕ → (List ℕ → Bool) → List ℕ → Result ℕ AsmCause
line_word places here is_new line =
    with_cut (cut (byte ":") (code_of line))
    (plain_word places here (trimmed (code_of line)))
    (λ label statement. labelled_word places here (is_new (trimmed label)) (trimmed label) (trimmed statement))

-- whether a line has more than blanks and a comment
unfoldable pub gives_word : List ℕ → Bool
gives_word line = not (length (trimmed (code_of line)) == 0)
