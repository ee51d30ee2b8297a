use Rattle.std.proofs.Common.{rules, arith, ◌∙◌, refl}
use Rattle.board.specs.New.{reset_core}
use Rattle.std.proofs.Math.ListN.{drop_of_length-le}
use Rattle.std.proofs.lemmas.List.{append-nil, take_all}
use Rattle.std.proofs.lemmas.List.Edits.{map_over_more}
use Rattle.board.proofs.harts.reset_all.Goals as goal

-- src/harts.rt:58:5
pub loop-hart-init : goal.loop-hart-init
loop-hart-init c = search rules

-- src/harts.rt:58:5
pub loop-hart-preserved : goal.loop-hart-preserved
loop-hart-preserved c =
    rw (c.reset.ensures, ← c.hart-item.is)
    (map_over_more reset_core _ _ _ c.hart-item.result (omega arith) c.loop-hart.invariant c.hart-item.is)

-- src/harts.rt:55:1
pub returns : goal.returns
returns c =
    let all = c.args.harts.now in
    c.loop-hart.invariant
    ∙ rw (
      take_all c.loop-hart.hart-index all c.loop-hart-test.false,
      drop_of_length-le all c.loop-hart-test.false,
      append-nil,
    ) refl
