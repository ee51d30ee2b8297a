-- The finisher: one register of 32 bits, by which a program ends a test. It holds nothing and takes nothing, its loads
-- give 0 and its interrupt line is down.
use Rattle.std.specs.Prelude.{ℕ, ◌/◌, ◌%◌, ◌^◌, ◌==◌, if◌then◌else◌}
use Rattle.dev_core.specs.declared.payload.Effect.{Effect}
use Rattle.dev_core.specs.declared.payload.Effect.TheVariants.{Quiet, Send}
use Rattle.dev_core.specs.declared.payload.Finish.TheVariants.{Pass, Fail}
use Rattle.dev_core.specs.declared.payload.Payload.TheVariants.{Finish}

-- the word of its register: 0x5555 in the low half is a pass, 0x3333 a failure with the code in the upper half
abbrev pub finish_of : ℕ → Effect
finish_of word =
    let low = word % 2 ^ 16 in
    if low == 0x5555 then Send (Finish Pass)
    else if low == 0x3333 then Send (Finish (Fail (word / 2 ^ 16)))
    else Quiet

-- what a store makes it send
abbrev pub finisher_sends : ℕ → ℕ → Effect
finisher_sends reg value = if reg == 0 then finish_of value else Quiet
