-- The map from addresses to bytes that the parts of an image make.
use Rattle.std.specs.Prelude.{ℕ, ◌-◌, nat_lt, if◌then◌else◌, List, [], ◌∷◌, ◌++◌, replicate, Option, None}
use Rattle.std.specs.Option.{option_or}
use Rattle.std.specs.List.{slice_get}
use Rattle.elf_load.specs.declared.image.Part.{Part}

-- the bytes of a part and its zeros, one after another
abbrev pub contents : Part → List ℕ
contents part = part.bytes ++ replicate part.zeros 0

-- the byte that a part gives an address, if it gives one
abbrev pub byte_in : Part → ℕ → Option ℕ
byte_in part address = if nat_lt address part.at then None else slice_get (contents part) (address - part.at)

-- the byte that parts give an address: the later one counts
abbrev pub byte_at : List Part → ℕ → Option ℕ
byte_at [] address = None
byte_at (part ∷ later) address = option_or (byte_at later address) (byte_in part address)
