use Rattle.std.proofs.Common.{◌∙◌, ◌++◌, ℕ, List, length, codes, ap, arith, subst}
use Rattle.std.specs.Fmt.{decimal}
use Rattle.monitor.specs.Boards.{create_as}
use Rattle.monitor.specs.Step.{Running}
use Rattle.monitor.specs.Inner.Ruling.{IsRuled}
use Rattle.monitor.proofs.MachineNames.{machine_name}
use Rattle.monitor.proofs.monitor.Monitor.create.Goals as goal

pub create_as-requires-in-None-clause-is_name : goal.create_as-requires-in-None-clause-is_name
create_as-requires-in-None-clause-is_name g c =
    rw (c.as_str-in-None.ensures.value, c.in_ok-name-in-None.ensures.ok)
    (machine_name c.boards-number.result (omega arith))

pub returns-in-Some : goal.returns-in-Some
returns-in-Some g c = rw (c.in-Some.is, ← c.as_str.ensures) c.create_as.ensures

pub returns-in_ok-name-in-None : goal.returns-in_ok-name-in-None
returns-in_ok-name-in-None g c =
    let named : List ℕ → Type 0 = λ name.
    IsRuled (create_as c.args.self.now.state name) c.create_as-in-None.result c.args.self.now
    c.create_as-in-None.new.self in
    let same =
    c.as_str-in-None.ensures.value ∙ c.in_ok-name-in-None.ensures.ok
    ∙ ap (λ n. codes "machine-" ++ decimal n)
    (c.boards-number.ensures ∙ ap (λ (r : Running). length r.state.lab.boards) c.self.view_is) in
    rw c.in-None.is (subst named same c.create_as-in-None.ensures)
