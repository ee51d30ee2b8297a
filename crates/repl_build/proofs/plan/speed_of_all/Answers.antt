-- Processors that keep all rules are few, and equally fast.
use Rattle.std.proofs.Common.{◌≡◌, ℕ, ◌*◌, ◌≤◌, sym, arith, List, Some}
use Rattle.std.specs.List.{sum_by}
use Rattle.sys_bus.specs.Limits.{most_speed}
use Rattle.repl_build.specs.declared.merge.Peripheral.{Peripheral}
use Rattle.repl_build.specs.declared.types.PeripheralType.TheVariants.{Cpu}
use Rattle.repl_build.specs.Counts.{count_of, first_with}
use Rattle.repl_build.specs.Inner.Tested.{IsTested}
use Rattle.repl_build.specs.Processors.{speed_of}
use Rattle.repl_build.proofs.CountLemmas.{few_of}
use Rattle.repl_build.proofs.SoundLemmas.{sound}
use Rattle.repl_build.proofs.SpeedLemmas.{even, speed_nothing, speed_product}
use Rattle.repl_build.proofs.TestedLemmas.{keeps}
use Rattle.repl_build.proofs.plan.speed_of_all.Goals as goal

pub overflow_cast-result : goal.overflow_cast-result
overflow_cast-result c =
    let few = few_of c.args.all.now Cpu (keeps c.args.all.now c.requires).counts in
    let is = c.count_of.ensures in
    omega (arith, few, is)

product :
    (all : List Peripheral) (first : Peripheral) (count speed : ℕ) → IsTested all → first_with Cpu all ≡ Some first →
    count ≡ count_of all Cpu → speed ≡ speed_of first → count * speed ≡ sum_by speed_of all
product all first count speed tested found one two =
    rw (one, two) (sym (speed_product all first (sound all (keeps all tested)) found))

pub overflow_mul-result : goal.overflow_mul-result
overflow_mul-result c =
    let all = c.args.all.now in
    let few : sum_by speed_of all ≤ most_speed = (even all (sound all (keeps all c.requires))).1 in
    let is = product all c.in-Some.first.now c.count_of.result c.speed_of.result c.requires
    (sym (c.in-Some.ensures {u = tt})) c.count_of.ensures c.speed_of.ensures in
    omega (arith, few, is)

pub returns-in-Some : goal.returns-in-Some
returns-in-Some c =
    product c.args.all.now c.in-Some.first.now c.count_of.result c.speed_of.result c.requires
    (sym (c.in-Some.ensures {u = tt})) c.count_of.ensures c.speed_of.ensures

pub returns-in-None : goal.returns-in-None
returns-in-None c =
    let all = c.args.all.now in
    sym (speed_nothing all (sound all (keeps all c.requires)) (sym (c.in-None.ensures {u = tt})))
