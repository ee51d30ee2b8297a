-- The course of the reader over comments, sign by sign.
use Rattle.std.specs.Prelude.{ℕ, List, [], ◌∷◌, Option, None}
use Rattle.std.specs.Option.{option_map}
use Rattle.repl_read.specs.declared.comments.Inside.{Inside}
use Rattle.repl_read.specs.Comments.{turn_at}

-- two signs at the front of a text that begin or end a comment: what stands after them, and the rest of the text
abbrev pub turn : Inside → ℕ → List ℕ → Option (Inside × List ℕ)
turn inside b [] = None
turn inside b (next ∷ rest) = option_map (λ then_. (then_, rest)) (turn_at inside b next)
