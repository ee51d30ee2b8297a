use Rattle.std.proofs.Common.{◌≡◌, map, replicate}
use Rattle.dev_core.specs.Uart.{uart_reset}
use Rattle.dev_core.specs.declared.state.DevState.TheVariants.{Uart}
use Rattle.chips.specs.Chip.{state_of}
use Rattle.chips.proofs.stock.uarts.Given as goal

abbrev pub invariant-loop-made : goal.invariant-loop-made
invariant-loop-made l = map state_of l.uarts.items ≡ replicate l._made (Uart uart_reset)
