-- The pages of a memory.
use Rattle.std.specs.Prelude.{ℕ, ◌*◌, List, take, drop, Bool, ◌==◌}
use Rattle.std.specs.List.{list_all}
use Rattle.page_ram.specs.Access.{page_size}

-- the bytes of the page of this number
abbrev pub page_of : List ℕ → ℕ → List ℕ
page_of bytes number = take page_size (drop (page_size * number) bytes)

-- bytes that are all 0
abbrev pub is_zero : List ℕ → Bool
is_zero bytes = list_all (λ b. b == 0) bytes
