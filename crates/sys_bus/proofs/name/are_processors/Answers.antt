use Rattle.std.proofs.Common.{rules, ◌≡◌, ◌↔◌, ℕ, ◌<◌, length, true, false, List, [], drop, subst, sym}
use Rattle.sys_bus.specs.Name as name
use Rattle.sys_bus.proofs.name.are_processors.Goals as goal
use Rattle.sys_bus.proofs.name.are_processors.Goals.{then-is_processor+in-Some+else-ne, else-is_processor}
use Rattle.sys_bus.proofs.NameLemmas.{one_more, no_more, at_end, are_none}

-- src/name.rt:42:5
pub loop-named-init : goal.loop-named-init
loop-named-init c = search rules

-- src/name.rt:45:17
pub returns-in_default : goal.returns-in_default
returns-in_default c =
    let within : c.loop-named.named-index < length c.args.names.now = search rules in
    let is : name.is_processor c.named-item.result.what ≡ true = search rules in
    let more = one_more c.args.names.now c.loop-named.named-index c.named-item.result within c.named-item.is is in
    search rules

-- src/name.rt:48:17
pub returns-then-ne : goal.returns-then-ne
returns-then-ne c =
    let within : c.loop-named.named-index < length c.args.names.now = search rules in
    let is : name.is_processor c.named-item.result.what ≡ true = search rules in
    let more = one_more c.args.names.now c.loop-named.named-index c.named-item.result within c.named-item.is is in
    search rules

-- src/name.rt:42:5
pub loop-named-preserved : goal.loop-named-preserved
loop-named-preserved c =
    let within : c.loop-named.named-index < length c.args.names.now = search rules in
    elim c.if-is_processor.branch [
      | then-is_processor+in-Some+else-ne w ↦
          let is : name.is_processor c.named-item.result.what ≡ true = search rules in
          let more = one_more c.args.names.now c.loop-named.named-index c.named-item.result within c.named-item.is is in
          search rules
      | else-is_processor w ↦
          let is : name.is_processor c.named-item.result.what ≡ false = search rules in
          let more = no_more c.args.names.now c.loop-named.named-index c.named-item.result within c.named-item.is is in
          search rules
    ]

-- src/name.rt:38:1
pub returns : goal.returns
returns c =
    let all : c.loop-named.named-index ≡ length c.args.names.now = search rules in
    let none : name.processors (drop c.loop-named.named-index c.args.names.now) ≡ [] =
    subst (λ (j : ℕ). name.processors (drop j c.args.names.now) ≡ []) (sym all) (at_end c.args.names.now) in
    let kept : (c.args.cpus.now ≡ name.processors c.args.names.now) ↔ (c.loop-named.rest.now ≡ []) =
    subst (λ (left : List (List ℕ)).
    (c.args.cpus.now ≡ name.processors c.args.names.now) ↔ (c.loop-named.rest.now ≡ left))
    none c.loop-named.invariant in
    let counted = are_none c.args.cpus.now c.loop-named.rest.now c.args.names.now kept in
    search rules
