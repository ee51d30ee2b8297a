-- A directory of pages as the list of its bytes. This is all that ties the one to the other.
use Rattle.std.specs.Prelude.{◌≡◌, ℕ, List, [], ◌∷◌, ◌++◌, length, replicate, Option, Some, None}
use Rattle.page_ram.specs.Access.{page_size}
use Rattle.page_ram.specs.declared.maybe_box.MaybeBox.{MaybeBox}

-- a page, as its bytes or none
abbrev pub Page : Type 0
Page = MaybeBox (List ℕ)

-- the bytes of a page that was never stored to
unfoldable pub zero_page : List ℕ
zero_page = replicate page_size 0

-- the bytes of a page
abbrev pub page_bytes : Option (List ℕ) → List ℕ
page_bytes None = zero_page
page_bytes (Some bytes) = bytes

-- the bytes of all pages, in order
abbrev pub bytes_of : List Page → List ℕ
bytes_of [] = []
bytes_of (p ∷ ps) = page_bytes p.held ++ bytes_of ps

-- each page is of the size of a page
abbrev pub IsPaged : List Page → Type 0
IsPaged [] = Unit {0}
IsPaged (p ∷ ps) = (length (page_bytes p.held) ≡ page_size) × IsPaged ps
