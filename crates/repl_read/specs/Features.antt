-- What Renode's format has and this reader leaves out: it is refused by name.
use Rattle.std.specs.Prelude.{ℕ, ◌||◌, ◌&&◌, not, Bool, true, false, List, [], ◌∷◌, codes}
use Rattle.std.specs.List.{list_any}
use Rattle.std.specs.Str.{bytes_eq}
use Rattle.repl_read.specs.declared.cuts.Mark.TheVariants as mark
use Rattle.repl_read.specs.declared.tokens.Token.{Token}
use Rattle.repl_read.specs.declared.tokens.Token.TheVariants.{Word, At, Bar}
use Rattle.repl_read.specs.Cuts.{cut, with_cut, parts}

abbrev pub is_feature_word : List ℕ → Bool
is_feature_word word =
    bytes_eq word (codes "local") || bytes_eq word (codes "as") || bytes_eq word (codes "new")
    || bytes_eq word (codes "none")

-- `|`, or one of these words
abbrev pub is_feature : Token → Bool
is_feature Bar = true
is_feature (Word word) = is_feature_word word
is_feature _ = false

abbrev pub is_section_word : List ℕ → Bool
is_section_word word =
    bytes_eq word (codes "init") || bytes_eq word (codes "reset") || bytes_eq word (codes "preinit")

-- whether the first word begins a section of commands
abbrev pub begins_section : List Token → Bool
begins_section [] = false
begins_section (Word word ∷ ts) = is_section_word word
begins_section (t ∷ ts) = begins_section ts

-- in an item
abbrev pub in_item : List Token → Bool
in_item tokens = list_any is_feature tokens || begins_section tokens

abbrev pub begins_with_word : List Token → Bool
begins_with_word (Word word ∷ ts) = true
begins_with_word other = false

-- a head has a type where a word follows its first `:`
abbrev pub has_type : List Token → Bool
has_type tokens = with_cut (cut mark.Colon tokens) false (λ name rest. begins_with_word rest)

abbrev pub is_at : Token → Bool
is_at At = true
is_at _ = false

-- in a head, also a registration without a type
abbrev pub in_head : List Token → Bool
in_head tokens = in_item tokens || (list_any is_at tokens && not (has_type tokens))

-- between braces, in some item
abbrev pub in_parts : List Token → Bool
in_parts tokens = list_any in_item (parts mark.Semicolon tokens)

-- in what stands after `{`, or on a further line between braces: in some item, or after the `}`
abbrev pub in_list : List Token → Bool
in_list tokens =
    with_cut (cut mark.CloseBrace tokens) (in_parts tokens) (λ inner rest. in_parts inner || in_item rest)
