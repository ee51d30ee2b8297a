-- The course of the reader over the tokens of a line.
use Rattle.std.specs.Prelude.{◌≡◌, ℕ, ◌<◌, ◌≤◌, ◌==◌, Bool, false, not, List, ◌∷◌, length, drop, Option, None, Some}
use Rattle.repl_read.specs.declared.tokens.TokenStep.{TokenStep}
use Rattle.repl_read.specs.declared.tokens.Token.{Token}
use Rattle.repl_read.specs.Comments.{quote}
use Rattle.repl_read.specs.Tokens.{tokens_of}

-- a byte that goes on in a string
abbrev pub is_no_quote : ℕ → Bool
is_no_quote b = not (b == quote)

-- a token in front of others, or none
abbrev pub in_front : Option Token → List Token → List Token
in_front None tokens = tokens
in_front (Some token) tokens = token ∷ tokens

-- one token of a line from a place on, or a blank, and where it ends
pub record IsStep (line : List ℕ) (from : ℕ) (step : TokenStep) : Type 0 where
  pub token : tokens_of false (drop from line) ≡ in_front step.token (tokens_of false (drop step.end line))
  pub further : from < step.end
  pub within : step.end ≤ length line
