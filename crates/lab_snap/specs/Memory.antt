-- How a memory is spelled: by the list of its pages that have a byte other than 0, each with its number, in rising
-- order.
use Rattle.std.specs.Prelude.{◌≡◌, ◌<◌, ◌*◌, ℕ, zero, suc, List, [], ◌∷◌, ◌++◌, length, take, drop}
use Rattle.std.specs.Prelude.{Bool, not, nat_lt, ◌==◌, ◌&&◌, if◌then◌else◌}
use Rattle.std.specs.List.{list_all, AllByRecursion}
use Rattle.page_ram.specs.Access.{page_size}
use Rattle.page_ram.specs.Bytes.{zeros}
use Rattle.page_ram.specs.Pages.{is_zero}
use Rattle.lab_encoding.specs.Form.{Form}
use Rattle.lab_encoding.specs.Combine.{list, only, shown}
use Rattle.lab_snap.specs.Page.{page_form}
use Rattle.lab_snap.specs.Rising.{rise_by}

-- n pages of s bytes
abbrev pub IsMemory : ℕ → ℕ → List ℕ → Type 0
IsMemory s n m = (length m ≡ s * n) × AllByRecursion (λ b. b < 256) m

-- ---- the pages of a memory that are used

-- n pages of s bytes, one after the other
unfoldable pub pages : ℕ → ℕ → List ℕ → List (List ℕ)
pages s zero m = []
pages s (suc n) m = take s m ∷ pages s n (drop s m)

-- the pages that have a byte other than 0, with their numbers, of which k is the first
unfoldable pub used_pages : ℕ → List (List ℕ) → List (ℕ × List ℕ)
used_pages k [] = []
used_pages k (page ∷ others) = if is_zero page then used_pages (suc k) others else (k, page) ∷ used_pages (suc k) others

-- of a memory of n pages of s bytes
abbrev pub used : ℕ → ℕ → List ℕ → List (ℕ × List ℕ)
used s n m = used_pages 0 (pages s n m)

-- ---- the memory of which pages are used

-- pages that can be the used ones of a memory of n pages: they rise, and each lies in the memory and has a byte other
-- than 0
abbrev pub are_used : ℕ → List (ℕ × List ℕ) → Bool
are_used n ps =
    list_all (λ page. nat_lt page.0 n && not (is_zero page.1)) ps
    && rise_by (λ page later. nat_lt page.0 later.0) ps

-- the page that stands there under a number, or one of zeros
unfoldable pub page_at : ℕ → ℕ → List (ℕ × List ℕ) → List ℕ
page_at s k [] = zeros s
page_at s k (page ∷ others) = if page.0 == k then page.1 else page_at s k others

-- the pages of so many numbers from k on, one after the other
unfoldable pub pages_from : ℕ → ℕ → ℕ → List (ℕ × List ℕ) → List ℕ
pages_from s k zero ps = []
pages_from s k (suc count) ps = page_at s k ps ++ pages_from s (suc k) count ps

-- the memory of n pages of s bytes that has these pages, and 0 elsewhere
abbrev pub memory_of : ℕ → ℕ → List (ℕ × List ℕ) → List ℕ
memory_of s n ps = pages_from s 0 n ps

-- ---- the spelling

-- a memory of n pages of s bytes: the list of its used pages
abbrev pub pages_form : ℕ → ℕ → Form (List ℕ)
pages_form s n = shown (IsMemory s n) (used s n) (memory_of s n) (only (are_used n) (list (page_form s)))

-- a memory of so many pages
abbrev pub memory_form : ℕ → Form (List ℕ)
memory_form n = pages_form page_size n
