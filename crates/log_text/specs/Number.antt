-- Numbers as the log prints them.
use Rattle.std.specs.Prelude.{ℕ, ◌-◌, ◌/◌, ◌%◌, false, List, ◌++◌, length, replicate, codes}
use Rattle.std.specs.Fmt.{decimal, digits}
use Rattle.lab_num.specs.declared.number.Micros.{Micros}

-- digits, with zeros before them where they are fewer than `least`
abbrev pub filled : ℕ → List ℕ → List ℕ
filled least shown = replicate (least - length shown) 48 ++ shown

-- a time in seconds, with a point and six digits of microseconds
unfoldable pub seconds : Micros → List ℕ
seconds at = decimal (at.0 / 1000000) ++ codes "." ++ filled 6 (decimal (at.0 % 1000000))

-- at least so many lower-case hexadecimal digits
abbrev pub hexadecimal : ℕ → ℕ → List ℕ
hexadecimal least n = filled least (digits 16 false n)

-- `0x` and eight lower-case hexadecimal digits
unfoldable pub word : ℕ → List ℕ
word n = codes "0x" ++ hexadecimal 8 n

-- an identifier of a CAN frame as three lower-case hexadecimal digits
unfoldable pub identifier : ℕ → List ℕ
identifier n = hexadecimal 3 n
