-- The texts of a program have no fault, and what their words are.
use Rattle.std.proofs.Common.{◌≡◌, ℕ, List, [], ◌∷◌, ◌++◌, length, map, find, Some, None, refl, ap}
use Rattle.std.specs.Prelude.{Ok}
use Rattle.std.specs.List.{flat_map}
use Rattle.rv_asm.specs.Encoded.{encoded}
use Rattle.rv_asm.specs.Lines.{target_of, branch_word, jump_word, mnemonic_in, operands_in, plain_word, labelled_word}
use Rattle.rv_asm.specs.Lines.{line_word, gives_word}
use Rattle.rv_asm.specs.Mnemonics.{op_named}
use Rattle.rv_asm.specs.Operands.{operand_and, register_and, place_of, registers_word, immediate_word, load_word}
use Rattle.rv_asm.specs.Operands.{store_word, two_registers_and}
use Rattle.rv_asm.specs.Operands as operands
use Rattle.rv_asm.specs.Program.{given, is_fault, lines_of}
use Rattle.rv_asm.specs.Texts.{trimmed}
use Rattle.rv_decode.specs.Table.{row_of}
use Rattle.lab_gen.specs.Firmware.{head, tail, program, upper_word, rest_word, word_of, words, words_of}

-- ---- words

each_word : (words : List ℕ) → flat_map word_of (map (λ word. Ok word) words) ≡ words
each_word [] = refl
each_word (word ∷ words) = ap (λ rest. word ∷ rest) (each_word words)

-- the words of a text that assembles to these
pub assembled :
    (text words : List ℕ) → map (λ x. x.1) (given (lines_of text)) ≡ map (λ word. Ok word) words →
    words_of text ≡ words
unfolding words_of
assembled text words is = rw is (each_word words)

-- ---- the two texts

pub head_assembles : find (λ line. is_fault line.1) (given (lines_of head)) ≡ None
unfolding head encoded row_of op_named target_of branch_word jump_word mnemonic_in operands_in plain_word
    labelled_word line_word gives_word operand_and register_and place_of registers_word immediate_word load_word
    store_word operands.upper_word two_registers_and trimmed
head_assembles = refl

pub tail_assembles : find (λ line. is_fault line.1) (given (lines_of tail)) ≡ None
unfolding tail encoded row_of op_named target_of branch_word jump_word mnemonic_in operands_in plain_word
    labelled_word line_word gives_word operand_and register_and place_of registers_word immediate_word load_word
    store_word operands.upper_word two_registers_and trimmed
tail_assembles = refl

-- ---- the whole program

pub joined :
    (start upper rest : ℕ) → upper_word start ≡ Some upper → rest_word start ≡ Some rest →
    words start ≡ words_of head ++ (upper ∷ []) ++ (rest ∷ []) ++ words_of tail
joined start upper rest upper_is rest_is = rw (upper_is, rest_is) refl

-- it has 23 words
pub program_length : (seed board : ℕ) → length (program seed board) ≡ 92
unfolding program words_of head tail encoded row_of op_named target_of branch_word jump_word mnemonic_in operands_in
    plain_word labelled_word line_word gives_word operand_and register_and place_of registers_word immediate_word
    load_word store_word operands.upper_word two_registers_and trimmed
program_length seed board = refl
