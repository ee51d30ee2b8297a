-- A file that is read line by line.
use Rattle.std.specs.Prelude.{ℕ, ◌+◌, ◌%◌, ◌++◌, List, Result, Ok, Err}
use Rattle.std.specs.Str.Lines.{lines}
use Rattle.elf_load.specs.declared.image.Part.{Part}
use Rattle.ihex_load.specs.declared.fault.HexFault.{HexFault}
use Rattle.ihex_load.specs.declared.record.Record.{Record}
use Rattle.ihex_load.specs.declared.record.Record.TheVariants.{Nothing, Data, EndOfFile, Base}
use Rattle.ihex_load.specs.Record.{◌>>=◌}
use Rattle.ihex_load.specs.Image.{records, placed, parts_of, space_size}

-- the parts of a file
abbrev pub parts_told : List ℕ → Result (List Part) HexFault
parts_told file = do
  all ← records (lines file)
  Ok (parts_of 0 all)

-- what is told, where these parts were read, the base is this, and these lines are still to come
abbrev pub told_from : ℕ → List Part → List (List ℕ) → Result (List Part) HexFault
told_from base parts rest = do
  all ← records rest
  Ok (parts ++ parts_of base all)

-- the same, by what the first of the lines says
abbrev pub told_behind : ℕ → List Part → List (List ℕ) → Result Record HexFault → Result (List Part) HexFault
told_behind base parts later (Ok Nothing) = told_from base parts later
told_behind base parts later (Ok (Data offset bytes)) =
    told_from base (parts ++ placed ((base + offset) % space_size) bytes) later
told_behind base parts later (Ok EndOfFile) = Ok parts
told_behind base parts later (Ok (Base address)) = told_from address parts later
told_behind base parts later (Err fault) = Err fault
