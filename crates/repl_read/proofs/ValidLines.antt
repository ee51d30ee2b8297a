-- What each entry of a text meets, line by line.
use Rattle.std.proofs.Common.{◌≡◌, ℕ, ◌+◌, ◌∙◌, ◌&&◌, true, refl, List, [], ◌∷◌, ◌++◌, Option, None, Some, Result, Ok}
use Rattle.std.proofs.Common.{Err}
use Rattle.std.specs.Prelude.{IfOk}
use Rattle.std.specs.List.{list_all, list_any}
use Rattle.std.proofs.lemmas.Bool.{and_parts}
use Rattle.std.proofs.lemmas.List.Folds.{list_all-append, list_all-map}
use Rattle.repl_read.specs.declared.entry.Head.{Head}
use Rattle.repl_read.specs.declared.entry.Item.{Item}
use Rattle.repl_read.specs.declared.entry.ItemWhat.{ItemWhat}
use Rattle.repl_read.specs.declared.fault.ReadCause.{ReadCause}
use Rattle.repl_read.specs.declared.lines.Said.{Said}
use Rattle.repl_read.specs.declared.lines.Stand.{Stand}
use Rattle.repl_read.specs.declared.lines.Stand.TheVariants.{Apart}
use Rattle.repl_read.specs.declared.tokens.TokenLine.{TokenLine}
use Rattle.repl_read.specs.Entries.{is_item, is_head, are_items, is_entry}
use Rattle.repl_read.specs.Lines.{has_close, said_of}
use Rattle.repl_read.specs.Platform.{◌>>=◌, LineFault, Rest, at_line, items_at, put, read_lines, token_lines, platform}
use Rattle.repl_read.proofs.ValidLemmas.{Good, is_head_if, is_said, said_good}

-- the items and the entries that lines say
abbrev AreGood : Rest → Type 0
AreGood rest = (are_items rest.0 ≡ true) × (list_all is_entry rest.1 ≡ true)

abbrev GoodRead : Result Rest LineFault → Type 0
GoodRead (Ok rest) = AreGood rest
GoodRead (Err fault) = Unit {0}

items_first :
    (n : ℕ) (items : List ItemWhat) (more : List Item) → list_all is_item items ≡ true → are_items more ≡ true →
    are_items (items_at n items ++ more) ≡ true
items_first n items more first rest =
    list_all-append (λ (item : Item). is_item item.what) (items_at n items) more
    ∙ rw (
      list_all-map (λ (item : Item). is_item item.what)
          (λ (what : ItemWhat). record { line = n; what = what }) items,
      first,
      rest,
    ) refl

put_good :
    (n : ℕ) (head : Option Head) (items : List ItemWhat) (rest : Rest) →
    (is_head_if head && list_all is_item items) ≡ true → AreGood rest → AreGood (put n head (items_at n items) rest)
put_good n None items rest said good = (items_first n items rest.0 said good.0, good.1)
put_good n (Some head) items rest said good =
    let both = and_parts (is_head head) (list_all is_item items) said in
    (refl, rw (both.0, items_first n items rest.0 both.1 good.0, good.1) refl)

put_read :
    (n : ℕ) (said : Said) (read : Result Rest LineFault) → is_said said ≡ true → GoodRead read →
    GoodRead (read >>= λ rest. Ok (put n said.head (items_at n said.items) rest))
put_read n said (Ok rest) here good = put_good n said.head said.items rest here good
put_read n said (Err fault) here good = tt

line_read :
    (n : ℕ) (line : Result Said ReadCause) (later : List TokenLine) → Good is_said line →
    ((stand : Stand) → GoodRead (read_lines stand (n + 1) later)) →
    GoodRead (at_line n line >>= λ said. read_lines said.next (n + 1) later >>= λ rest.
    Ok (put n said.head (items_at n said.items) rest))
line_read n (Ok said) later here rest = put_read n said (read_lines said.next (n + 1) later) here (rest said.next)
line_read n (Err cause) later here rest = tt

read_good : (stand : Stand) (n : ℕ) (lines : List TokenLine) → GoodRead (read_lines stand n lines)
read_good stand n [] = (refl, refl)
read_good stand n (line ∷ later) =
    line_read n (said_of stand line.indented (list_any has_close later) line.tokens) later
    (said_good stand line.indented (list_any has_close later) line.tokens)
    (λ stand. read_good stand (n + 1) later)

entries_good :
    (read : Result Rest LineFault) → GoodRead read →
    IfOk (read >>= λ rest. Ok rest.1) (λ entries. list_all is_entry entries ≡ true)
entries_good (Ok rest) good = good.1
entries_good (Err fault) good = tt

pub platform_entries : (text : List ℕ) → IfOk (platform text) (λ entries. list_all is_entry entries ≡ true)
unfolding platform
platform_entries text = entries_good (read_lines Apart 1 (token_lines text)) (read_good Apart 1 (token_lines text))
