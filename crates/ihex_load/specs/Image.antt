-- The image of an Intel HEX file, or its first fault.
use Rattle.std.specs.Prelude.{◌≡◌, ℕ, ◌+◌, ◌-◌, ◌%◌, ◌^◌, ◌++◌, nat_le, Bool, true, false, if◌then◌else◌, List, []}
use Rattle.std.specs.Prelude.{◌∷◌}
use Rattle.std.specs.Prelude.{length, take, drop, None, Result, Ok, Err}
use Rattle.std.specs.Str.Lines.{lines}
use Rattle.elf_load.specs.declared.image.Image.{Image}
use Rattle.elf_load.specs.declared.image.Part.{Part}
use Rattle.ihex_load.specs.declared.fault.HexFault.{HexFault}
use Rattle.ihex_load.specs.declared.fault.HexFault.TheVariants.{NoEnd, Memory}
use Rattle.ihex_load.specs.declared.record.Record.{Record}
use Rattle.ihex_load.specs.declared.record.Record.TheVariants.{Data, EndOfFile, Base}
use Rattle.ihex_load.specs.Record.{◌>>=◌, line_of}

abbrev pub is_end : Record → Bool
is_end EndOfFile = true
is_end other = false

-- what lines say up to the one that ends the file, or their first fault
abbrev pub records : List (List ℕ) → Result (List Record) HexFault
records [] = Err NoEnd
records (line ∷ later) = do
  record_ ← line_of line
  if is_end record_ then Ok [] else (do
    others ← records later
    Ok (record_ ∷ others))

-- the size of the address space
abbrev pub space_size : ℕ
space_size = 2 ^ 32

abbrev pub part : ℕ → List ℕ → Part
part at bytes = record { at = at; bytes = bytes; zeros = 0 }

-- bytes from an address on: those that pass the end of the address space stand from 0 on
abbrev pub placed : ℕ → List ℕ → List Part
placed at bytes =
    if nat_le (length bytes) (space_size - at) then part at bytes ∷ []
    else part at (take (space_size - at) bytes) ∷ part 0 (drop (space_size - at) bytes) ∷ []

-- the data of records: each stands at its offset from the base that the last record before it has set
abbrev pub parts_of : ℕ → List Record → List Part
parts_of base [] = []
parts_of base (Data offset bytes ∷ later) = placed ((base + offset) % space_size) bytes ++ parts_of base later
parts_of base (Base address ∷ later) = parts_of address later
parts_of base (other ∷ later) = parts_of base later

-- the image of a file, which has no entry
unfoldable pub image_of : List ℕ → Result Image HexFault
image_of file = do
  all ← records (lines file)
  Ok (record { entry = None; parts = parts_of 0 all })

-- a file is read as it is defined, unless memory ran out
abbrev pub IsReadAs : Result Image HexFault → Result Image HexFault → Type 0
IsReadAs meant (Ok image) = meant ≡ Ok image
IsReadAs meant (Err Memory) = Unit {0}
IsReadAs meant (Err fault) = meant ≡ Err fault
