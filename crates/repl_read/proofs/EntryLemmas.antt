-- Lines to entries, line by line.
use Rattle.std.proofs.Common.{◌≡◌, ℕ, ◌+◌, ◌<◌, ◌∙◌, refl, sym, ap, List, [], ◌∷◌, ◌++◌, length, drop, Option, None}
use Rattle.std.proofs.Common.{Some, Result, Ok, Err, append_assoc, arith}
use Rattle.std.proofs.lemmas.List.{append-nil, drop-drop, length-drop, map-append}
use Rattle.repl_read.specs.declared.entry.Entry.{Entry}
use Rattle.repl_read.specs.declared.entry.Head.{Head}
use Rattle.repl_read.specs.declared.entry.Item.{Item}
use Rattle.repl_read.specs.declared.entry.ItemWhat.{ItemWhat}
use Rattle.repl_read.specs.declared.lines.Said.{Said}
use Rattle.repl_read.specs.declared.lines.Stand.{Stand}
use Rattle.repl_read.specs.declared.tokens.TokenLine.{TokenLine}
use Rattle.repl_read.specs.Platform.{◌>>=◌, LineFault, Rest, put, items_at, read_lines}
use Rattle.repl_read.specs.Inner.Entries.{said_from, done_by, begun_by, extended_by}

-- entries that are done, one that was begun, and what the other lines say
abbrev pub finish : List Entry → Option Entry → Result Rest LineFault → Result (List Entry) LineFault
finish done None read = read >>= λ rest. Ok (done ++ rest.1)
finish done (Some e) read = read >>= λ rest. Ok (done ++ record e { items = e.items ++ rest.0 } ∷ rest.1)

-- a line's fault is the answer
pub finish_fault :
    (done : List Entry) (begun : Option Entry) (fault : LineFault) → finish done begun (Err fault) ≡ Err fault
finish_fault done None fault = refl
finish_fault done (Some e) fault = refl

-- a line more
finish_more :
    (done : List Entry) (begun : Option Entry) (n : ℕ) (head : Option Head) (items : List Item)
    (read : Result Rest LineFault) →
    finish done begun (read >>= λ rest. Ok (put n head items rest))
    ≡ finish (done_by head done begun) (extended_by items (begun_by n head begun)) read
finish_more done None n None items (Ok rest) = refl
finish_more done (Some e) n None items (Ok rest) =
    ap (λ all. Ok (done ++ record e { items = all } ∷ rest.1)) (sym (append_assoc e.items items rest.0))
finish_more done None n (Some head) items (Ok rest) = rw (append-nil done) refl
finish_more done (Some e) n (Some head) items (Ok rest) =
    rw (append-nil e.items) (ap Ok (sym (append_assoc done (e ∷ []) _)))
finish_more done None n None items (Err fault) = refl
finish_more done (Some e) n None items (Err fault) = refl
finish_more done None n (Some head) items (Err fault) = refl
finish_more done (Some e) n (Some head) items (Err fault) = refl

-- the first of some lines
read_first :
    (stand : Stand) (n : ℕ) (lines : List TokenLine) (said : Said) → 0 < length lines →
    said_from stand n lines ≡ Ok said →
    read_lines stand n lines
    ≡ (read_lines said.next (n + 1) (drop 1 lines) >>= λ rest. Ok (put n said.head (items_at n said.items) rest))
read_first stand n [] said some is = absurd (omega arith)
read_first stand n (line ∷ later) said some is = rw is refl

read_fault :
    (stand : Stand) (n : ℕ) (lines : List TokenLine) (fault : LineFault) → 0 < length lines →
    said_from stand n lines ≡ Err fault → read_lines stand n lines ≡ Err fault
read_fault stand n [] fault some is = absurd (omega arith)
read_fault stand n (line ∷ later) fault some is = rw is refl

pub line_more :
    (lines : List TokenLine) (i : ℕ) (stand : Stand) (said : Said) (done : List Entry) (begun : Option Entry)
    (whole : Result (List Entry) LineFault) → i < length lines →
    said_from stand (i + 1) (drop i lines) ≡ Ok said →
    finish done begun (read_lines stand (i + 1) (drop i lines)) ≡ whole →
    finish (done_by said.head done begun)
    (extended_by (items_at (i + 1) said.items) (begun_by (i + 1) said.head begun))
    (read_lines said.next (i + 1 + 1) (drop (i + 1) lines)) ≡ whole
line_more lines i stand said done begun whole inside is read =
    let some : 0 < length (drop i lines) = omega (arith, length-drop i lines) in
    let first = read_first stand (i + 1) (drop i lines) said some is in
    let rest = read_lines said.next (i + 1 + 1) (drop (i + 1) lines) in
    sym (finish_more done begun (i + 1) said.head (items_at (i + 1) said.items) rest)
    ∙ (rw (first, drop-drop 1 i lines) at read)

-- an item more of one line
pub item_more :
    (n : ℕ) (what : ItemWhat) (whats : List ItemWhat) (made before : List Item) → made ≡ before ++ items_at n whats →
    made ++ record { line = n; what = what } ∷ [] ≡ before ++ items_at n (whats ++ what ∷ [])
item_more n what whats made before is =
    rw (is, map-append {B = Item} (λ w. record { line = n; what = w }) whats (what ∷ []))
    (append_assoc before (items_at n whats) (record { line = n; what = what } ∷ []))
