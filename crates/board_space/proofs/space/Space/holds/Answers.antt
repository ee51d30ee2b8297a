use Rattle.std.proofs.Common.{◌≡◌, ◌+◌, ◌-◌, ◌∙◌, sym, ap, arith}
use Rattle.board_space.specs.Changes.{is_memory, in_memory, holds_each}
use Rattle.board_space.proofs.ListLemmas.{all_of_parts}
use Rattle.board_space.proofs.space.Space.holds.Goals as goal
use Rattle.lab_num.proofs.ListLemmas.{all_of_range}

pub returns-then-left-room : goal.returns-then-left-room
returns-then-left-room g c =
    let room = c.in-Some.ensures {u = tt} in
    sym (c.loop-left.invariant.rest
    ∙ all_of_range (in_memory c.args.self.now) c.loop-left.next c.loop-left.left
    (λ i within. ap is_memory (room.bytes i (omega (arith, within, c.if-left-room.true)))))

pub loop-left-preserved : goal.loop-left-preserved
loop-left-preserved g c =
    let room = c.in-Some.ensures {u = tt} in
    let size = c.in-Some.room.size in
    let left = c.loop-left.left - size in
    let split : c.loop-left.left ≡ size + left = omega (arith, c.if-left-room.false) in
    record {
      rest =
          c.loop-left.invariant.rest
          ∙ ap (λ n. holds_each c.args.self.now c.loop-left.next n) split
          ∙ all_of_parts (in_memory c.args.self.now) c.loop-left.next size left
          (λ i within. ap is_memory (room.bytes i within))
          ∙ ap (λ k. holds_each c.args.self.now (c.loop-left.next + k) left) (sym c.from-next-in-loop-left.ensures);
      end = omega (arith, c.loop-left.invariant.end, c.from-next-in-loop-left.ensures, c.if-left-room.false);
    }
