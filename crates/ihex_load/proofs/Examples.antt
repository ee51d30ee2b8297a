-- The definitions computed on examples.
use Rattle.std.proofs.Common.{◌≡◌, [], ◌∷◌, refl, Ok, Err}
use Rattle.std.specs.Prelude.{codes}
use Rattle.hex.proofs.OnLiterals.{hex_on_literals}
use Rattle.ihex_load.specs.declared.fault.HexFault.TheVariants.{Form, Sum, Kind, Length}
use Rattle.ihex_load.specs.declared.record.Record.TheVariants.{Nothing, Data, EndOfFile, Base}
use Rattle.ihex_load.specs.Record.{line_of}
use Rattle.ihex_load.specs.Image.{part, placed}

-- a record of each type that has an effect
three_bytes : line_of (codes ":0300300002337A1E") ≡ Ok (Data 0x30 (0x02 ∷ 0x33 ∷ 0x7A ∷ []))
unfolding line_of hex_on_literals
three_bytes = refl

the_end : line_of (codes ":00000001FF") ≡ Ok EndOfFile
unfolding line_of hex_on_literals
the_end = refl

segment_address : line_of (codes ":020000021200EA") ≡ Ok (Base 0x12000)
unfolding line_of hex_on_literals
segment_address = refl

linear_address : line_of (codes ":0200000480007A") ≡ Ok (Base 0x80000000)
unfolding line_of hex_on_literals
linear_address = refl

start_address : line_of (codes ":04000005000000CD2A") ≡ Ok Nothing
unfolding line_of hex_on_literals
start_address = refl

-- faults
wrong_sum : line_of (codes ":0300300002337A1F") ≡ Err Sum
unfolding line_of hex_on_literals
wrong_sum = refl

no_digit : line_of (codes ":0000000xFF") ≡ Err Form
unfolding line_of hex_on_literals
no_digit = refl

too_few_bytes : line_of (codes ":0400300002337A1D") ≡ Err Length
unfolding line_of hex_on_literals
too_few_bytes = refl

unknown_type : line_of (codes ":00000006FA") ≡ Err Kind
unfolding line_of hex_on_literals
unknown_type = refl

-- the second byte of these stands at address 0
two_parts : placed 0xFFFFFFFF (1 ∷ 2 ∷ []) ≡ part 0xFFFFFFFF (1 ∷ []) ∷ part 0 (2 ∷ []) ∷ []
two_parts = refl
