-- The log has whole lines of printable bytes.
use Rattle.std.proofs.Common.{◌≡◌, ℕ, zero, suc, ◌-◌, ◌/◌, ◌%◌, ◌<◌, ◌≤◌, ◌==◌, ◌&&◌, nat_le, Bool, true, false, List}
use Rattle.std.proofs.Common.{[], ◌∷◌, ◌++◌, length, get_or, replicate, take, codes, refl}
use Rattle.std.proofs.Common.{sym, inl, inr, append-nil, arith}
use Rattle.std.specs.Fmt.{decimal, digit_glyph, digits, digits_onto}
use Rattle.std.specs.List.{flat_map, list_all}
use Rattle.std.proofs.lemmas.Bool.{cases_Bool, and_from, and_parts}
use Rattle.std.proofs.lemmas.Grind.{flat_map-append}
use Rattle.std.proofs.lemmas.Bool.Decides.{nat_tests}
use Rattle.lab_num.specs.declared.key.Member.{Member}
use Rattle.lab_num.specs.declared.number.BoardNo.{BoardNo}
use Rattle.lab_num.specs.declared.number.Micros.{Micros}
use Rattle.dev_core.specs.declared.payload.Finish.{Finish}
use Rattle.dev_core.specs.declared.payload.Finish.TheVariants.{Pass, Fail}
use Rattle.dev_core.specs.declared.post.What.TheVariants.{Byte, Sent, Read, Write}
use Rattle.dev_core.specs.Frame.{FrameData, carried}
use Rattle.log_merge.specs.declared.item.LogItem.{LogItem}
use Rattle.log_merge.specs.declared.item.LogItem.TheVariants.{Slot, Note, Pause}
use Rattle.log_merge.specs.declared.item.Note as note
use Rattle.log_merge.specs.declared.item.Note.TheVariants.{Overrun, Received, Lost}
use Rattle.log_merge.specs.declared.names.Names.{Names}
use Rattle.log_text.specs.declared.line.OpenLine.{OpenLine}
use Rattle.log_text.specs.Frame.{data_text, frame_text, kind_text, pairs}
use Rattle.log_text.specs.Line.{gathered, is_ending, own}
use Rattle.log_text.specs.Log.{device_of, ended_by, escaped, finish_text, frame_line, log_line, noted, opened, printed}
use Rattle.log_text.specs.Log.{rest, text, uart_line}
use Rattle.log_text.specs.Names.{board_name, device_name, names_of_board, place_name}
use Rattle.log_text.specs.Number.{filled, hexadecimal, identifier, seconds, word}
use Rattle.log_text.specs.Printable.{AreLines, are_board_names, are_printable_names, is_printable}
use Rattle.log_text.proofs.Parts.{list_all-both}

abbrev is_printable_byte : ℕ → Bool
is_printable_byte byte = nat_le 32 byte && nat_le byte 126

both :
    (front back : List ℕ) → is_printable front ≡ true → is_printable back ≡ true →
    is_printable (front ++ back) ≡ true
both front back one other = list_all-both is_printable_byte front back one other

-- ---- numbers

glyph_printable : (d : ℕ) → d < 16 → is_printable_byte (digit_glyph false d) ≡ true
glyph_printable d small = grind (arith, nat_tests)

digits_onto_printable :
    (k base n : ℕ) (after : List ℕ) → 0 < base → base ≤ 16 → is_printable after ≡ true →
    is_printable (digits_onto k base false n after) ≡ true
digits_onto_printable zero base n after some most rest_is = rest_is
digits_onto_printable (suc k) base n after some most rest_is =
    let more : is_printable (digit_glyph false (n % base) ∷ after) ≡ true =
    and_from (is_printable_byte (digit_glyph false (n % base))) (is_printable after)
    (glyph_printable (n % base) (omega arith)) rest_is in
    elim (cases_Bool (n / base == 0)) [
      | inl is ↦ rw is more
      | inr is ↦ rw is (digits_onto_printable k base (n / base) (digit_glyph false (n % base) ∷ after) some most more)
    ]

digits_printable : (base n : ℕ) → 0 < base → base ≤ 16 → is_printable (digits base false n) ≡ true
unfolding digits
digits_printable base n some most = digits_onto_printable 64 base n [] some most refl

decimal_printable : (n : ℕ) → is_printable (decimal n) ≡ true
decimal_printable n = digits_printable 10 n (omega arith) (omega arith)

zeros_printable : (n : ℕ) → is_printable (replicate n 48) ≡ true
zeros_printable zero = refl
zeros_printable (suc n) = zeros_printable n

filled_printable : (least : ℕ) (shown : List ℕ) → is_printable shown ≡ true → is_printable (filled least shown) ≡ true
filled_printable least shown is =
    both (replicate (least - length shown) 48) shown (zeros_printable (least - length shown)) is

hexadecimal_printable : (least n : ℕ) → is_printable (hexadecimal least n) ≡ true
hexadecimal_printable least n =
    filled_printable least (digits 16 false n) (digits_printable 16 n (omega arith) (omega arith))

word_printable : (n : ℕ) → is_printable (word n) ≡ true
unfolding word
word_printable n = both (codes "0x") (hexadecimal 8 n) refl (hexadecimal_printable 8 n)

seconds_printable : (at : Micros) → is_printable (seconds at) ≡ true
unfolding seconds
seconds_printable at =
    both (decimal (at.0 / 1000000) ++ codes ".") (filled 6 (decimal (at.0 % 1000000)))
    (both (decimal (at.0 / 1000000)) (codes ".") (decimal_printable (at.0 / 1000000)) refl)
    (filled_printable 6 (decimal (at.0 % 1000000)) (decimal_printable (at.0 % 1000000)))

-- ---- frames

identifier_printable : (n : ℕ) → is_printable (identifier n) ≡ true
unfolding identifier
identifier_printable n = hexadecimal_printable 3 n

kind_printable : (remote : Bool) → is_printable (kind_text remote) ≡ true
kind_printable true = refl
kind_printable false = refl

pairs_printable : (bytes : List ℕ) → is_printable (pairs bytes) ≡ true
pairs_printable [] = refl
pairs_printable (byte ∷ bytes) =
    both (hexadecimal 2 byte) (pairs bytes) (hexadecimal_printable 2 byte) (pairs_printable bytes)

data_printable : (bytes : List ℕ) → is_printable (data_text bytes) ≡ true
data_printable [] = refl
data_printable (byte ∷ bytes) = both (codes " ") (pairs (byte ∷ bytes)) refl (pairs_printable (byte ∷ bytes))

frame_printable : (frame : FrameData) → is_printable (frame_text frame) ≡ true
unfolding frame_text
frame_printable frame =
    let id = identifier frame.id ++ codes " " in
    let kind = id ++ kind_text frame.remote ++ codes " " in
    let id_is = both (identifier frame.id) (codes " ") (identifier_printable frame.id) refl in
    let kind_is = both (id ++ kind_text frame.remote) (codes " ")
    (both id (kind_text frame.remote) id_is (kind_printable frame.remote)) refl in
    both (kind ++ decimal frame.len) (data_text (take (carried frame) frame.bytes))
    (both kind (decimal frame.len) kind_is (decimal_printable frame.len))
    (data_printable (take (carried frame) frame.bytes))

-- ---- names

get_or_keeps :
    {X : Type 0} (p : X → Bool) (xs : List X) (i : ℕ) (d : X) → p d ≡ true → list_all p xs ≡ true →
    p (get_or xs i d) ≡ true
get_or_keeps p [] i d here all = here
get_or_keeps p (x ∷ xs) zero d here all = (and_parts (p x) (list_all p xs) all).0
get_or_keeps p (x ∷ xs) (suc i) d here all = get_or_keeps p xs i d here (and_parts (p x) (list_all p xs) all).1

module _ (names : Names) (are : are_printable_names names ≡ true) where
  board_parts :
      (board : BoardNo) →
      (is_printable (board_name names board) ≡ true)
      × (list_all is_printable (names_of_board names board).devices ≡ true)
  board_parts board =
      and_parts (is_printable (board_name names board)) (list_all is_printable (names_of_board names board).devices)
      (get_or_keeps are_board_names names.boards board.0 (record { name = []; devices = [] }) refl are)

  place_printable : (m : Member) → is_printable (place_name names m) ≡ true
  place_printable m =
      let board = board_parts m.board in
      both (board_name names m.board ++ codes "/") (device_name names m)
      (both (board_name names m.board) (codes "/") board.0 refl)
      (get_or_keeps is_printable (names_of_board names m.board).devices m.dev [] refl board.1)

-- ---- lines

no_lines : AreLines []
no_lines = record { lines = []; printable = refl; all = refl }

both_lines : (front back : List ℕ) → AreLines front → AreLines back → AreLines (front ++ back)
both_lines front back one other = record {
  lines = one.lines ++ other.lines;
  printable = list_all-both is_printable one.lines other.lines one.printable other.printable;
  all = rw (flat_map-append (λ (line : List ℕ). line ++ 10 ∷ []) one.lines other.lines, one.all, other.all) refl;
}

log_line_is_one : (at : Micros) (said : List ℕ) → is_printable said ≡ true → AreLines (log_line at said)
log_line_is_one at said is =
    let line = codes "[" ++ seconds at ++ codes "] " ++ said in
    let stamp =
    both (codes "[" ++ seconds at) (codes "] ") (both (codes "[") (seconds at) refl (seconds_printable at)) refl in
    record {
      lines = line ∷ [];
      printable = and_from (is_printable line) true (both (codes "[" ++ seconds at ++ codes "] ") said stamp is) refl;
      all = sym (append-nil (line ++ 10 ∷ []));
    }

escaped_printable : (byte : ℕ) → is_printable (escaped byte) ≡ true
escaped_printable byte =
    elim (cases_Bool (byte == 92)) [
      | inl is ↦ rw is refl
      | inr not_92 ↦ elim (cases_Bool (is_printable_byte byte)) [
        | inl is ↦ rw (not_92, is) (and_from (is_printable_byte byte) true is refl)
        | inr other ↦ elim (cases_Bool (byte == 9)) [
          | inl is ↦ rw (not_92, other, is) refl
          | inr not_9 ↦ elim (cases_Bool (byte == 13)) [
            | inl is ↦ rw (not_92, other, not_9, is) refl
            | inr not_13 ↦ rw (not_92, other, not_9, not_13)
                (both (codes "\\x") (hexadecimal 2 byte) refl (hexadecimal_printable 2 byte))
          ]
        ]
      ]
    ]

escaped_all_printable : (bytes : List ℕ) → is_printable (flat_map escaped bytes) ≡ true
escaped_all_printable [] = refl
escaped_all_printable (byte ∷ bytes) =
    both (escaped byte) (flat_map escaped bytes) (escaped_printable byte) (escaped_all_printable bytes)

module _ (names : Names) (are : are_printable_names names ≡ true) where
  uart_line_is_one : (line : OpenLine) → AreLines (uart_line names line)
  unfolding uart_line
  uart_line_is_one line =
      log_line_is_one line.at (place_name names line.member ++ codes ": " ++ flat_map escaped line.bytes)
      (both (place_name names line.member ++ codes ": ") (flat_map escaped line.bytes)
      (both (place_name names line.member) (codes ": ") (place_printable names are line.member) refl)
      (escaped_all_printable line.bytes))

  ended_is_whole : (line : OpenLine) (at : Micros) (byte : ℕ) → AreLines (ended_by names line at byte)
  ended_is_whole line at byte =
      elim (cases_Bool (is_ending line byte)) [
        | inl is ↦ rw is (uart_line_is_one (gathered line at byte))
        | inr is ↦ rw is no_lines
      ]

  finish_printable : (finish : Finish) → is_printable (finish_text finish) ≡ true
  finish_printable Pass = refl
  finish_printable (Fail code) = both (codes "fail ") (decimal code) refl (decimal_printable code)

  read_printable :
      (board : BoardNo) (width at : ℕ) →
      is_printable (board_name names board ++ codes "/sysbus: read " ++ decimal width ++ codes " at " ++ word at) ≡ true
  read_printable board width at =
      let name = both (board_name names board) (codes "/sysbus: read ") (board_parts names are board).0 refl in
      let wide =
      both (board_name names board ++ codes "/sysbus: read ") (decimal width) name (decimal_printable width) in
      both (board_name names board ++ codes "/sysbus: read " ++ decimal width ++ codes " at ") (word at)
      (both (board_name names board ++ codes "/sysbus: read " ++ decimal width) (codes " at ") wide refl)
      (word_printable at)

  write_printable :
      (board : BoardNo) (width at value : ℕ) →
      is_printable (board_name names board ++ codes "/sysbus: write " ++ decimal width ++ codes " at " ++ word at
      ++ codes " value " ++ word value) ≡ true
  write_printable board width at value =
      let name = both (board_name names board) (codes "/sysbus: write ") (board_parts names are board).0 refl in
      let wide =
      both (board_name names board ++ codes "/sysbus: write ") (decimal width) name (decimal_printable width) in
      let placed =
      both (board_name names board ++ codes "/sysbus: write " ++ decimal width ++ codes " at ") (word at)
      (both (board_name names board ++ codes "/sysbus: write " ++ decimal width) (codes " at ") wide refl)
      (word_printable at) in
      both
      (board_name names board ++ codes "/sysbus: write " ++ decimal width ++ codes " at " ++ word at
      ++ codes " value ")
      (word value)
      (both (board_name names board ++ codes "/sysbus: write " ++ decimal width ++ codes " at " ++ word at)
      (codes " value ") placed refl)
      (word_printable value)

  pause_printable :
      (m : Member) (finish : Finish) →
      is_printable (codes "pause " ++ place_name names m ++ codes ": " ++ finish_text finish) ≡ true
  pause_printable m finish =
      both (codes "pause " ++ place_name names m ++ codes ": ") (finish_text finish)
      (both (codes "pause " ++ place_name names m) (codes ": ")
      (both (codes "pause ") (place_name names m) refl (place_printable names are m)) refl)
      (finish_printable finish)

  frame_is_whole :
      (at : Micros) (m : Member) (word : List ℕ) (frame : FrameData) → is_printable word ≡ true →
      AreLines (frame_line names at m word frame)
  frame_is_whole at m word frame is =
      let place = place_name names m ++ codes ": " in
      let place_is = both (place_name names m) (codes ": ") (place_printable names are m) refl in
      log_line_is_one at (place ++ word ++ codes " " ++ frame_text frame)
      (both (place ++ word ++ codes " ") (frame_text frame)
      (both (place ++ word) (codes " ") (both place word place_is is) refl) (frame_printable frame))

  noted_is_whole : (at : Micros) (m : Member) (said : note.Note) → AreLines (noted names at m said)
  noted_is_whole at m Overrun =
      log_line_is_one at (place_name names m ++ codes ": overrun")
      (both (place_name names m) (codes ": overrun") (place_printable names are m) refl)
  noted_is_whole at m (Received frame) = frame_is_whole at m (codes "rx") frame refl
  noted_is_whole at m (Lost frame) = frame_is_whole at m (codes "lost") frame refl

  printed_is_whole : (lines : List OpenLine) (item : LogItem) → AreLines (printed names lines item)
  printed_is_whole lines (Slot from (Byte dev byte)) = ended_is_whole (own (device_of from dev) lines) from.at byte
  printed_is_whole lines (Slot from (Sent dev frame)) =
      frame_is_whole from.at (device_of from dev) (codes "tx") frame refl
  printed_is_whole lines (Slot from (Read width at)) =
      log_line_is_one from.at
      (board_name names from.board ++ codes "/sysbus: read " ++ decimal width ++ codes " at " ++ word at)
      (read_printable from.board width at)
  printed_is_whole lines (Slot from (Write width at value)) =
      log_line_is_one from.at (board_name names from.board ++ codes "/sysbus: write " ++ decimal width ++ codes " at "
      ++ word at ++ codes " value " ++ word value) (write_printable from.board width at value)
  printed_is_whole lines (Note at m said) = noted_is_whole at m said
  printed_is_whole lines (Pause at m finish) =
      log_line_is_one at (codes "pause " ++ place_name names m ++ codes ": " ++ finish_text finish)
      (pause_printable m finish)

  pub text_is_whole : (lines : List OpenLine) (items : List LogItem) → AreLines (text names lines items)
  text_is_whole lines [] = no_lines
  text_is_whole lines (item ∷ items) =
      both_lines (printed names lines item) (text names (opened lines item) items) (printed_is_whole lines item)
      (text_is_whole (opened lines item) items)

  pub rest_is_whole : (lines : List OpenLine) → AreLines (rest names lines)
  rest_is_whole [] = no_lines
  rest_is_whole (line ∷ lines) =
      both_lines (uart_line names line) (rest names lines) (uart_line_is_one line) (rest_is_whole lines)
