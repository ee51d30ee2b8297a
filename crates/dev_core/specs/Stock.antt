-- When there are devices enough for every board that a laboratory can have.
use Rattle.std.specs.Prelude.{◌≡◌, map, replicate}
use Rattle.dev_core.specs.declared.state.DevState.{DevState}
use Rattle.dev_core.specs.declared.state.DevState.TheVariants.{Uart, Can, Finisher}
use Rattle.dev_core.specs.declared.stock.Stock.{Stock}
use Rattle.dev_core.specs.Uart.{uart_reset}
use Rattle.dev_core.specs.Can.{can_reset}

-- 64 UARTs, 64 CAN controllers and 16 finishers, each in its reset state; `see` gives the state of a device
abbrev pub IsFull : {D : Type 0} → (D → DevState) → Stock D → Type 0
IsFull see stock =
    (map see stock.uarts.items ≡ replicate 64 (Uart uart_reset))
    × (map see stock.cans.items ≡ replicate 64 (Can can_reset))
    × (map see stock.finishers.items ≡ replicate 16 Finisher)
