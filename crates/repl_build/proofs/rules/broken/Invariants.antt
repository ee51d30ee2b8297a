-- No peripheral so far breaks the rule.
use Rattle.std.proofs.Common.{◌≡◌, [], take, drop}
use Rattle.repl_build.specs.First.{first_fault}
use Rattle.repl_build.specs.Rules.{peripheral_fault}
use Rattle.repl_build.proofs.rules.broken.Given as goal

abbrev pub invariant-loop-i : goal.invariant-loop-i
invariant-loop-i l =
    first_fault (peripheral_fault l.rule l.all) (take l.i l.all) (drop l.i l.all)
    ≡ first_fault (peripheral_fault l.rule l.all) [] l.all
