-- Writing and reading pages.
use Rattle.std.specs.Prelude.{ℕ, List, [], Option, Some, None, Bool, not, nat_le, nat_lt, ◌&&◌, if◌then◌else◌}
use Rattle.page_ram.specs.Pages.{is_zero}
use Rattle.lab_encoding.specs.Combine.{◌>>=◌, parse_times}
use Rattle.lab_snap.specs.Memory.{are_used, memory_of}
use Rattle.lab_snap.specs.Page.{page_form}

-- a page is spelled only where it has a byte other than 0
abbrev pub spell_used : ℕ → ℕ → List ℕ → List ℕ
spell_used s k page = if is_zero page then [] else (page_form s).spell (k, page)

-- the next page has a number from low on and below top, and a byte other than 0
abbrev pub is_next : ℕ → ℕ → ℕ × List ℕ → Bool
is_next top low page = nat_le low page.0 && (nat_lt page.0 top && not (is_zero page.1))

-- the memory of n pages of which so many used pages stand at the front of a text, with what follows them
abbrev pub memory_read : ℕ → ℕ → ℕ → List ℕ → Option (List ℕ × List ℕ)
memory_read s n count text = parse_times (page_form s) count text >>= λ ps.
    if are_used n ps.0 then Some (memory_of s n ps.0, ps.1) else None
