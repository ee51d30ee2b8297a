-- One memory more is put in its place.
use Rattle.std.proofs.Common.{◌≡◌, ◌<◌, arith, length, rules}
use Rattle.std.proofs.lemmas.Iterator.Adapters.{YieldsList-from_vec}
use Rattle.std.proofs.lemmas.Iterator.Consumers.{YieldsList-turn}
use Rattle.std.proofs.lemmas.List.{length_push}
use Rattle.board.specs.Space.{memory_at}
use Rattle.board.specs.View.{View}
use Rattle.lab_snap.proofs.MadeBoard.{few_memories, for_fitted, half_made, has_fitted, next_below, next_made, next_size}
use Rattle.lab_snap.proofs.MadeBoard.{one_more_memory}
use Rattle.lab_snap.proofs.loading.boards.make.Goals as goal

pub put_memory-requires-clause-has_plan : goal.put_memory-requires-clause-has_plan
put_memory-requires-clause-has_plan g c =
    has_fitted c.args.lab.now c.args.b.0 (half_made c.args.b.0 c.args.plan c.loop-memory.yielded)
    c.loop-memory.invariant.lab c.requires.exists

pub put_memory-requires-clause-part : goal.put_memory-requires-clause-part
put_memory-requires-clause-part g c =
    let turn = YieldsList-turn
    (YieldsList-from_vec {s = c.into_iter-memory-iterator.result} c.args.memories (search rules) (search rules))
    c.loop-memory.yielded c.loop-memory.memory-iterator c.loop-memory.yielded_by c.next.result c.next.new.self
    c.in-Some.memory c.in-Some.is c.next.ensures.steps in
    for_fitted c.args.lab.now c.args.b.0 (half_made c.args.b.0 c.args.plan c.loop-memory.yielded)
    (λ (v : View). c.loop-memory.part < length v.space.memories) c.loop-memory.invariant.lab c.requires.exists
    (rw c.loop-memory.invariant.part
    (next_below c.args.b.0 c.args.plan c.args.memories c.loop-memory.yielded c.in-Some.memory c.requires.sizes
    turn.0 turn.1))

pub put_memory-requires-clause-size : goal.put_memory-requires-clause-size
put_memory-requires-clause-size g c =
    let turn = YieldsList-turn
    (YieldsList-from_vec {s = c.into_iter-memory-iterator.result} c.args.memories (search rules) (search rules))
    c.loop-memory.yielded c.loop-memory.memory-iterator c.loop-memory.yielded_by c.next.result c.next.new.self
    c.in-Some.memory c.in-Some.is c.next.ensures.steps in
    for_fitted c.args.lab.now c.args.b.0 (half_made c.args.b.0 c.args.plan c.loop-memory.yielded)
    (λ (v : View). length c.in-Some.memory ≡ length (memory_at v.space c.loop-memory.part))
    c.loop-memory.invariant.lab c.requires.exists
    (rw c.loop-memory.invariant.part
    (next_size c.args.b.0 c.args.plan c.args.memories c.loop-memory.yielded c.in-Some.memory c.requires.sizes
    turn.0 turn.1))

pub overflow_add-part : goal.overflow_add-part
overflow_add-part g c =
    let turn = YieldsList-turn
    (YieldsList-from_vec {s = c.into_iter-memory-iterator.result} c.args.memories (search rules) (search rules))
    c.loop-memory.yielded c.loop-memory.memory-iterator c.loop-memory.yielded_by c.next.result c.next.new.self
    c.in-Some.memory c.in-Some.is c.next.ensures.steps in
    omega (
      arith,
      turn.0,
      c.loop-memory.invariant.part,
      few_memories c.args.plan c.args.memories c.requires.plan c.requires.sizes,
    )

pub loop-memory-preserved : goal.loop-memory-preserved
loop-memory-preserved g c =
    let turn = YieldsList-turn
    (YieldsList-from_vec {s = c.into_iter-memory-iterator.result} c.args.memories (search rules) (search rules))
    c.loop-memory.yielded c.loop-memory.memory-iterator c.loop-memory.yielded_by c.next.result c.next.new.self
    c.in-Some.memory c.in-Some.is c.next.ensures.steps in
    record {
      part = omega (arith, c.loop-memory.invariant.part, length_push c.loop-memory.yielded c.in-Some.memory);
      lab =
          one_more_memory c.args.lab.now c.args.b.0 c.args.plan c.loop-memory.yielded c.in-Some.memory
          c.loop-memory.invariant.part c.loop-memory.invariant.lab c.put_memory.ensures
          (next_made c.args.b.0 c.args.plan c.args.memories c.loop-memory.yielded c.in-Some.memory c.requires.sizes
          turn.0 turn.1);
    }
