-- Names and types, as lists of bytes.
use Rattle.std.specs.Prelude.{ℕ, ◌==◌, Bool, List}
use Rattle.std.specs.List.{list_all, slice_split}
use Rattle.std.specs.Str.{byte}
use Rattle.lab_num.specs.Name.{is_identifier}

-- one or more names, joined by dots
abbrev pub is_dotted_name : List ℕ → Bool
is_dotted_name text = list_all is_identifier (slice_split (λ b. b == byte ".") text)
