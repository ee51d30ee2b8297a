-- The program of a generated board.
use Rattle.std.specs.Prelude.{ℕ, ◌+◌, ◌*◌, ◌/◌, ◌%◌, ◌^◌, List, [], ◌∷◌, ◌++◌, codes, map, Option, Some, None}
use Rattle.std.specs.Prelude.{Result, Ok, Err, bit_xor}
use Rattle.std.specs.Int.{w32, to_le_bytes}
use Rattle.std.specs.List.{flat_map}
use Rattle.rv_decode.specs.declared.instruction.Op.TheVariants.{Lui, Addi}
use Rattle.rv_decode.specs.Immediate.{sign_extended}
use Rattle.rv_asm.specs.declared.fault.AsmCause.{AsmCause}
use Rattle.rv_asm.specs.Encoded.{word_with}
use Rattle.rv_asm.specs.Program.{given, lines_of}

-- the number that register x20 of a board starts with
abbrev pub start_of : ℕ → ℕ → ℕ
start_of seed board = bit_xor (seed % 2 ^ 32) (board * 2654435769 % 2 ^ 32)

-- the UART's address is put into x8, and its queues are turned on
unfoldable pub head : List ℕ
head =
    codes "lui x8, 0x10000\n"
    ++ codes "addi x9, x0, 1\n"
    ++ codes "sb x9, 2(x8)\n"

-- `lui x20`: the upper 20 bits of the start, rounded so that the next instruction can give the rest as a signed number
abbrev pub upper_word : ℕ → Option ℕ
upper_word start = word_with Lui 20 0 0 (Some ((start + 0x800) / 2 ^ 12 % 2 ^ 20 * 2 ^ 12))

-- `addi x20, x20`: the rest, from -2048 to 2047
abbrev pub rest_word : ℕ → Option ℕ
rest_word start = word_with Addi 20 20 0 (Some (sign_extended 12 (start % 2 ^ 12)))

-- An endless loop that makes the numbers of a sequence, x20 after x20 * 1664525 + 1013904223. In each turn a byte that
-- the UART holds is taken and joins the sum in x18, which is multiplied by 31 before. One number in sixteen sends its
-- upper byte.
unfoldable pub tail : List ℕ
tail =
    codes "lui x21, 0x196\n"
    ++ codes "addi x21, x21, 0x60D\n"
    ++ codes "lui x22, 0x3C6EF\n"
    ++ codes "addi x22, x22, 0x35F\n"
    ++ codes "addi x23, x0, 31\n"
    ++ codes "loop: mul x20, x20, x21\n"
    ++ codes "add x20, x20, x22\n"
    ++ codes "lbu x10, 5(x8)\n"
    ++ codes "andi x10, x10, 1\n"
    ++ codes "beq x10, x0, skip\n"
    ++ codes "lbu x11, 0(x8)\n"
    ++ codes "mul x18, x18, x23\n"
    ++ codes "add x18, x18, x11\n"
    ++ codes "skip: srli x12, x20, 24\n"
    ++ codes "andi x13, x12, 15\n"
    ++ codes "bne x13, x0, loop\n"
    ++ codes "sb x12, 0(x8)\n"
    ++ codes "jal x0, loop\n"

-- the word of a line, and nothing of a line with a fault
abbrev pub word_of : Result ℕ AsmCause → List ℕ
word_of (Ok word) = word ∷ []
word_of (Err cause) = []

-- the words of a text's lines
unfoldable pub words_of : List ℕ → List ℕ
words_of text = flat_map word_of (map (λ line. line.1) (given (lines_of text)))

-- the word of an instruction, if it has one
abbrev pub some_word : Option ℕ → List ℕ
some_word (Some word) = word ∷ []
some_word None = []

-- The words of a program, one after another. Labels stand in the tail alone and are taken relative to the line that
-- names them, so each part is assembled by itself.
abbrev pub words : ℕ → List ℕ
words start = words_of head ++ some_word (upper_word start) ++ some_word (rest_word start) ++ words_of tail

-- a word as bytes, the lowest first
abbrev pub word_bytes : ℕ → List ℕ
word_bytes word = to_le_bytes w32 word

-- the program of a board, as the bytes of its words
unfoldable pub program : ℕ → ℕ → List ℕ
program seed board = flat_map word_bytes (words (start_of seed board))
