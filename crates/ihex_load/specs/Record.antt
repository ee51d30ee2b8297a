-- What a line of a file says (Intel, Hexadecimal Object File Format Specification, revision A, 1988).
use Rattle.std.specs.Prelude.{ℕ, ◌+◌, ◌*◌, ◌%◌, ◌==◌, ◌||◌, not, nat_eq, nat_lt, Bool, true, if◌then◌else◌, List}
use Rattle.std.specs.Prelude.{length, take, drop}
use Rattle.std.specs.Prelude.{codes, slice_index, Option, Some, None, Result, Ok, Err}
use Rattle.std.specs.List.{list_all, starts_with, sum}
use Rattle.std.specs.Str.{byte}
use Rattle.byteorder.specs.Endian.{big_number}
use Rattle.hex.specs.Hex.{decode_of}
use Rattle.hex.specs.declared.error.FromHexError.{FromHexError}
use Rattle.ihex_load.specs.declared.fault.HexFault.{HexFault}
use Rattle.ihex_load.specs.declared.fault.HexFault.TheVariants.{Form, Sum, Kind, Length}
use Rattle.ihex_load.specs.declared.record.Record.{Record}
use Rattle.ihex_load.specs.declared.record.Record.TheVariants.{Nothing, Data, EndOfFile, Base}

abbrev pub is_blank_line : List ℕ → Bool
is_blank_line line = list_all (λ b. b == byte " " || b == byte "\t") line

-- the bytes that pairs of hexadecimal digits write, in either case
abbrev pub or_form : Result (List ℕ) FromHexError → Result (List ℕ) HexFault
or_form (Ok bytes) = Ok bytes
or_form (Err e) = Err Form

abbrev pub bytes_of : List ℕ → Result (List ℕ) HexFault
bytes_of digits = or_form (decode_of digits)

-- a record: RECLEN, LOAD OFFSET, RECTYP, the data bytes, CHKSUM
abbrev pub count_of : List ℕ → ℕ
count_of bytes = slice_index bytes 0

abbrev pub offset_of : List ℕ → ℕ
offset_of bytes = big_number 2 (drop 1 bytes)

abbrev pub kind_of : List ℕ → ℕ
kind_of bytes = slice_index bytes 3

abbrev pub data_of : List ℕ → List ℕ
data_of bytes = take (count_of bytes) (drop 4 bytes)

-- the address in the data of a base record
abbrev pub value_of : List ℕ → ℕ
value_of bytes = big_number 2 (drop 4 bytes)

-- whether a record of this type may have so many data bytes
abbrev pub has_count : ℕ → ℕ → Bool
has_count kind count =
    if kind == 0 then true
    else if kind == 1 then count == 0
    else if kind == 2 || kind == 4 then count == 2
    else count == 4

-- the first fault of a record
abbrev pub fault_of : List ℕ → Option HexFault
fault_of bytes =
    if nat_lt (length bytes) 5 then Some Form
    else if not (length bytes == count_of bytes + 5) then Some Length
    else if not (sum bytes % 256 == 0) then Some Sum
    else if nat_lt 5 (kind_of bytes) then Some Kind
    else if not (has_count (kind_of bytes) (count_of bytes)) then Some Length
    else None

-- 00 data, 01 end of file, 02 extended segment address, 03 start segment address, 04 extended linear address,
-- 05 start linear address
abbrev pub meaning_of : List ℕ → Record
meaning_of bytes =
    if kind_of bytes == 0 then Data (offset_of bytes) (data_of bytes)
    else if kind_of bytes == 1 then EndOfFile
    else if kind_of bytes == 2 then Base (value_of bytes * 16)
    else if kind_of bytes == 4 then Base (value_of bytes * 65536)
    else Nothing

-- the record, where there is no fault
abbrev pub unless : Option HexFault → Record → Result Record HexFault
unless None record_ = Ok record_
unless (Some fault) record_ = Err fault

abbrev pub checked : List ℕ → Result Record HexFault
checked bytes = unless (fault_of bytes) (meaning_of bytes)

-- a step of a `do` block: the first fault is the fault of all
infixl 10 ◌>>=◌
abbrev pub ◌>>=◌ : {A B : Type 0} → Result A HexFault → (A → Result B HexFault) → Result B HexFault
(Ok x) >>= f = f x
(Err fault) >>= f = Err fault

abbrev pub of_digits : List ℕ → Result Record HexFault
of_digits digits = do
  bytes ← bytes_of digits
  checked bytes

-- what a line says, or its first fault
unfoldable pub line_of : List ℕ → Result Record HexFault
line_of line =
    if is_blank_line line then Ok Nothing
    else if starts_with nat_eq line (codes ":") then of_digits (drop 1 line)
    else Err Form
