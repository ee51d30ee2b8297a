-- A line's tokens, cut at signs.
use Rattle.std.specs.Prelude.{nat_lt, Bool, true, false, if◌then◌else◌, List, length, Option, Some, None}
use Rattle.std.specs.List.{slice_split, position_or_len, before_first, after_first}
use Rattle.repl_read.specs.declared.cuts.Mark.{Mark}
use Rattle.repl_read.specs.declared.cuts.Mark.TheVariants as mark
use Rattle.repl_read.specs.declared.tokens.Token.{Token}
use Rattle.repl_read.specs.declared.tokens.Token.TheVariants as token

-- whether a token is the sign at which a line is cut
abbrev pub is_mark : Mark → Token → Bool
is_mark mark.Colon token.Colon = true
is_mark mark.Semicolon token.Semicolon = true
is_mark mark.Comma token.Comma = true
is_mark mark.Arrow token.Arrow = true
is_mark mark.EndList token.EndList = true
is_mark mark.OpenBrace token.OpenBrace = true
is_mark mark.CloseBrace token.CloseBrace = true
is_mark sign _ = false

-- what stands before and after the first such sign, if there is one
abbrev pub cut : Mark → List Token → Option (List Token × List Token)
cut sign tokens =
    if nat_lt (position_or_len (is_mark sign) tokens) (length tokens)
    then Some (before_first (is_mark sign) tokens, after_first (is_mark sign) tokens)
    else None

-- by whether there is such a sign
abbrev pub with_cut : {X : Type 0} → Option (List Token × List Token) → X → (List Token → List Token → X) → X
with_cut None alone both = alone
with_cut (Some x) alone both = both x.0 x.1

-- what stands between such signs, and before the first and after the last
abbrev pub parts : Mark → List Token → List (List Token)
parts sign tokens = slice_split (is_mark sign) tokens
