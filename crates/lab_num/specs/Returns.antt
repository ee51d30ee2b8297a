-- Texts whose lines end with a carriage return and a line feed.
use Rattle.std.specs.Prelude.{ℕ, ◌==◌, not, Bool, if◌then◌else◌, List, [], ◌∷◌}
use Rattle.std.specs.Str.{byte}

-- any byte but a carriage return
abbrev pub is_no_return : ℕ → Bool
is_no_return b = not (b == byte "\r")

-- a text with a carriage return before each line feed
abbrev pub with_returns : List ℕ → List ℕ
with_returns [] = []
with_returns (b ∷ bs) =
    if b == byte "\n" then byte "\r" ∷ byte "\n" ∷ with_returns bs else b ∷ with_returns bs
