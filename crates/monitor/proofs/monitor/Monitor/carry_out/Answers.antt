-- The texts of a command are its words.
use Rattle.std.proofs.Common.{refl}
use Rattle.monitor.specs.declared.stop.Storing.TheVariants.{Save, Load}
use Rattle.monitor.proofs.monitor.Monitor.carry_out.Goals as goal

pub returns-in-LoadPlatform : goal.returns-in-LoadPlatform
returns-in-LoadPlatform g c = rw (c.in-LoadPlatform.is, ← c.as_str.ensures) c.load_platform.ensures

pub returns-in-Select : goal.returns-in-Select
returns-in-Select g c = rw (c.in-Select.is, ← c.as_str-in-Select.ensures) (c.select.ensures, refl)

pub returns-in-UartHub : goal.returns-in-UartHub
returns-in-UartHub g c = rw (c.in-UartHub.is, ← c.as_str-in-UartHub.ensures) (c.uart_hub.ensures, refl)

pub returns-in-CanHub : goal.returns-in-CanHub
returns-in-CanHub g c = rw (c.in-CanHub.is, ← c.as_str-in-CanHub.ensures) (c.can_hub.ensures, refl)

pub returns-in-Save : goal.returns-in-Save
returns-in-Save g c =
    rw c.in-Save.is (record { asked = Save c.in-Save.path; stop = refl; answer = λ place. refl }, refl, refl)

pub returns-in-Load : goal.returns-in-Load
returns-in-Load g c =
    rw c.in-Load.is (record { asked = Load c.in-Load.path; stop = refl; answer = λ place. refl }, refl, refl)
