-- The entry that was found has the name.
use Rattle.std.proofs.Common.{◌∙◌, ap, [], List, ℕ, Option}
use Rattle.std.specs.Option.{option_map_or}
use Rattle.sys_bus.specs.declared.plan.Named.{Named}
use Rattle.lab_state.proofs.names.device_name.Goals as goal

abbrev name_of : Option Named → List ℕ
name_of o = option_map_or (λ named. named.name) o []

pub returns-in-Some : goal.returns-in-Some
returns-in-Some c = c.as_str.ensures ∙ ap name_of c.in-Some.ensures

pub returns-in-None : goal.returns-in-None
returns-in-None c = ap name_of c.in-None.ensures
