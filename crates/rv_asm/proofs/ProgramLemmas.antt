-- One line more: of the places of labels, and of the words.
use Rattle.std.proofs.Common.{◌≡◌, ℕ, ◌+◌, ◌^◌, ◌<◌, ◌≤◌, Bool, true, false, refl, sym, ap, ◌∙◌, inl, inr, List, []}
use Rattle.std.proofs.Common.{◌∷◌, ◌++◌, length, get_or, drop, map, Option, Some, None, Result, Ok, Err, append_assoc}
use Rattle.std.proofs.Common.{arith}
use Rattle.std.specs.Prelude.{if◌then◌else◌}
use Rattle.std.specs.Option.{option_or}
use Rattle.std.proofs.lemmas.List.{drop_more, drop-map, length-map}
use Rattle.std.specs.Prelude.{is_some}
use Rattle.std.specs.Map.{update}
use Rattle.std.specs.Str.{bytes_eq}
use Rattle.std.proofs.lemmas.Bool.{cases_Bool}
use Rattle.std.proofs.lemmas.Slice.Eq.{bytes_eq-Decides}
use Rattle.std.specs.Prelude.{◌==◌}
use Rattle.std.proofs.lemmas.List.Splits.{length-slice_split}
use Rattle.std.proofs.lemmas.List.Sums.{count_by-le-length}
use denote.Ref.{Bor}
use Rattle.rv_asm.specs.declared.fault.AsmFault.{AsmFault}
use Rattle.rv_asm.specs.declared.fault.AsmFault.TheVariants.{Line, Memory}
use Rattle.rv_asm.specs.Lines.{gives_word, label_of}
use Rattle.rv_asm.specs.Places.{is_label}
use Rattle.rv_asm.specs.Program.{lines_of}
use Rattle.rv_asm.specs.Inner.Scan.{place_from, word_from, at_line, words_from, Fails, ◌>>=◌}
use Rattle.lab_num.proofs.ListLemmas.{none_is}

-- the texts of lines
abbrev pub texts : List (Bor (List ℕ)) → List (List ℕ)
texts lines = map (λ line. line.now) lines

-- the line at i, as the code reads it
abbrev pub line_at : List (Bor (List ℕ)) → ℕ → List ℕ
line_at lines i = (get_or lines i (record { ref_ptr = (0, 0); now = [] })).now

-- the line at i, and those after it
pub next_text :
    (lines : List (Bor (List ℕ))) (i : ℕ) → i < length lines →
    drop i (texts lines) ≡ line_at lines i ∷ drop (i + 1) (texts lines)
next_text lines i below =
    let next = drop_more lines i (record { ref_ptr = (0, 0); now = [] }) below in
    drop-map (λ (x : Bor (List ℕ)). x.now) i lines ∙
    (ap (map (λ (x : Bor (List ℕ)). x.now)) next ∙ ap (λ more. line_at lines i ∷ more)
    (sym (drop-map (λ (x : Bor (List ℕ)). x.now) (i + 1) lines)))

-- ---- places

-- the first of three places
option_or-if :
    (old : Option ℕ) (here : Bool) (address : ℕ) (later : Option ℕ) →
    option_or (option_or old (if here then Some address else None)) later ≡
    option_or old (if here then Some address else later)
option_or-if None true address later = refl
option_or-if None false address later = refl
option_or-if (Some x) here address later = refl

option_or-none : (o : Option ℕ) → option_or o None ≡ o
option_or-none None = refl
option_or-none (Some x) = refl

pub update-absent :
    (old : List ℕ → Option ℕ) (label name : List ℕ) (address : ℕ) → is_some (old label) ≡ false →
    update bytes_eq old label (Some address) name ≡
    option_or (old name) (if bytes_eq label name then Some address else None)
update-absent old label name address absent =
    elim (cases_Bool (bytes_eq label name)) [
      | inl same ↦
          let one : label ≡ name = (bytes_eq-Decides label name).0 same in
          let before : old name ≡ None = rw (← one) (none_is (old label) absent) in
          rw (same, before) refl
      | inr other ↦ rw other (sym (option_or-none (old name)))
    ]

-- the places of all lines are those that were found, and else those of the lines from i on
abbrev pub FindsPlaces : List (List ℕ) → ℕ → ℕ → (List ℕ → Option ℕ) → Type 0
FindsPlaces lines i address found =
    (name : List ℕ) → option_or (found name) (place_from address (drop i lines) name) ≡ place_from 0 lines name

pub places_blank :
    (lines : List (List ℕ)) (i address : ℕ) (line : List ℕ) (found : List ℕ → Option ℕ) →
    drop i lines ≡ line ∷ drop (i + 1) lines → gives_word line ≡ false →
    FindsPlaces lines i address found → FindsPlaces lines (i + 1) address found
places_blank lines i address line found next blank all name =
    let before :
    option_or (found name) (place_from address (line ∷ drop (i + 1) lines) name) ≡ place_from 0 lines name =
    rw next at (all name) in
    rw blank at before

pub places_more :
    (lines : List (List ℕ)) (i address : ℕ) (line : List ℕ) (found more : List ℕ → Option ℕ) →
    drop i lines ≡ line ∷ drop (i + 1) lines → gives_word line ≡ true →
    ((name : List ℕ) →
    more name ≡ option_or (found name) (if is_label name (label_of line) then Some address else None))
    →
    FindsPlaces lines i address found → FindsPlaces lines (i + 1) (address + 4) more
places_more lines i address line found more next gives added all name =
    let before :
    option_or (found name) (place_from address (line ∷ drop (i + 1) lines) name) ≡ place_from 0 lines name =
    rw next at (all name) in
    rw (added name)
    (option_or-if (found name) (is_label name (label_of line)) address
    (place_from (address + 4) (drop (i + 1) lines) name) ∙
    rw gives at before)

-- ---- words

-- the words before, and then these
abbrev pub behind : List ℕ → Result (List ℕ) AsmFault → Result (List ℕ) AsmFault
behind done (Ok words) = Ok (done ++ words)
behind done (Err fault) = Err fault

-- the words of all lines are those that were made, and then those of the lines from i on
abbrev pub MakesWords : (List ℕ → Option ℕ) → List (List ℕ) → ℕ → ℕ → List ℕ → Type 0
MakesWords places lines i address done =
    behind done (words_from places (i + 1) address (drop i lines)) ≡ words_from places 1 0 lines

behind-onto :
    (done : List ℕ) (word : ℕ) (rest : Result (List ℕ) AsmFault) →
    behind (done ++ word ∷ []) rest ≡ behind done (rest >>= λ words. Ok (word ∷ words))
behind-onto done word (Ok words) = ap Ok (append_assoc done (word ∷ []) words)
behind-onto done word (Err fault) = refl

pub words_blank :
    (places : List ℕ → Option ℕ) (lines : List (List ℕ)) (i address : ℕ) (line : List ℕ) (done : List ℕ) →
    drop i lines ≡ line ∷ drop (i + 1) lines → gives_word line ≡ false →
    MakesWords places lines i address done → MakesWords places lines (i + 1) address done
words_blank places lines i address line done next blank all =
    let before :
    behind done (words_from places (i + 1) address (line ∷ drop (i + 1) lines)) ≡ words_from places 1 0 lines =
    rw next at all in
    rw blank at before

pub words_more :
    (places : List ℕ → Option ℕ) (lines : List (List ℕ)) (i address : ℕ) (line : List ℕ) (done : List ℕ)
    (word : ℕ) →
    drop i lines ≡ line ∷ drop (i + 1) lines → gives_word line ≡ true →
    at_line (i + 1) (word_from places address line) ≡ Ok word →
    MakesWords places lines i address done → MakesWords places lines (i + 1) (address + 4) (done ++ word ∷ [])
words_more places lines i address line done word next gives made all =
    let before :
    behind done (words_from places (i + 1) address (line ∷ drop (i + 1) lines)) ≡ words_from places 1 0 lines =
    rw next at all in
    behind-onto done word (words_from places (i + 1 + 1) (address + 4) (drop (i + 1) lines))
    ∙ rw (gives, made) at before

pub words_fault :
    (places : List ℕ → Option ℕ) (lines : List (List ℕ)) (i address : ℕ) (line : List ℕ) (done : List ℕ)
    (fault : AsmFault) →
    drop i lines ≡ line ∷ drop (i + 1) lines → gives_word line ≡ true →
    at_line (i + 1) (word_from places address line) ≡ Err fault →
    MakesWords places lines i address done → words_from places 1 0 lines ≡ Err fault
words_fault places lines i address line done fault next gives made all =
    let before :
    behind done (words_from places (i + 1) address (line ∷ drop (i + 1) lines)) ≡ words_from places 1 0 lines =
    rw next at all in
    sym (rw (gives, made) at before)

-- a fault of a line is that of all lines
pub gives_fault :
    (fault : AsmFault) (word : Result ℕ AsmFault) (meant : Result (List ℕ) AsmFault) → Fails word fault →
    (word ≡ Err fault → meant ≡ Err fault) → Fails meant fault
gives_fault (Line n cause) word meant is told = told is
gives_fault Memory word meant is told = tt

-- ---- the text

-- each line but the last ends at a byte of its own
pub lines_few :
    (text : List ℕ) (lines : List (Bor (List ℕ))) → texts lines ≡ lines_of text → length text ≤ 2 ^ 24 →
    length lines ≤ 2 ^ 24 + 1
lines_few text lines are short =
    omega (
      arith,
      length-map lines (λ (x : Bor (List ℕ)). x.now),
      ap length are,
      length-slice_split (λ b. b == 10) text,
      count_by-le-length (λ b. b == 10) text,
    )
