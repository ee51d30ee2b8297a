-- The faults that are answered for the causes of the calls beneath.
use Rattle.uart_hub.specs.declared.hubs.HubFault.{HubFault}
use Rattle.uart_hub.specs.declared.hubs.HubFault.TheVariants as hub_fault
use Rattle.lab_state.specs.declared.faults.ConnectFault.{ConnectFault}
use Rattle.lab_state.specs.declared.faults.ConnectFault.TheVariants as connect_fault
use Rattle.lab_state.specs.declared.faults.RunCause.{RunCause}
use Rattle.lab_state.specs.declared.faults.RunCause.TheVariants as run_cause
use Rattle.lab_state.specs.declared.faults.RunFault.{RunFault}
use Rattle.lab_state.specs.declared.faults.RunFault.TheVariants as fault

-- of a device that is not connected to a hub that exists
abbrev pub fault_of : HubFault → ConnectFault
fault_of hub_fault.Already = connect_fault.Already
fault_of hub_fault.Memory = connect_fault.Memory

-- of a run that may not be made
abbrev pub run_fault : RunCause → RunFault
run_fault (run_cause.NoPlan board) = fault.NoPlan board
run_fault run_cause.TooLong = fault.TooLong
