use Rattle.std.proofs.Common.{◌∙◌, ap, arith, length, take}
use Rattle.std.proofs.lemmas.List.{length-take}
use Rattle.board_space.proofs.FitLemmas.{fit_memory}
use Rattle.board_space.proofs.CopyLemmas.{put_piece, put_front, on_err}
use Rattle.board_space.proofs.LineLemmas.{right_memories}
use Rattle.board_space.proofs.space.Space.copy_piece.Goals as goal

pub invariant_of-self : goal.invariant_of-self
invariant_of-self g c = (
  c.self.invariant.0,
  fit_memory _ c.from.result c.copy_in.new.self _ c.self.invariant.1
      (c.copy_in.ensures.size ∙ ap length c.index_mut.ensures.value),
  c.self.invariant.2,
  right_memories _ _ _ c.self.invariant.3,
)

pub returns-in_err-copy_in-clause-err : goal.returns-in_err-copy_in-clause-err
returns-in_err-copy_in-clause-err g c =
    let room = rw (← c.self.view_is) at c.room_from-room.ensures in
    let failed = (c.in_err-copy_in.ensures {u = tt}).err in
    let piece = length-take c.min-count.result c.args.bytes.now in
    on_err c.from_residual.result
    (rw (← c.self.view_is)
    (put_front _ c.args.at c.room_from-room.result c.args.bytes.now c.min-count.result failed.0 _ c.index_mut.result.now
    c.copy_in.new.self c.from.result room
    (omega (arith, c.min-count.ensures)) failed.1.0 c.from.ensures c.index_mut.ensures.value failed.1.1))

pub invariant_of-self-2 : goal.invariant_of-self-2
invariant_of-self-2 g c = (
  c.self.invariant.0,
  fit_memory _ c.from.result c.copy_in.new.self _ c.self.invariant.1
      (c.copy_in.ensures.size ∙ ap length c.index_mut.ensures.value),
  c.self.invariant.2,
  right_memories _ _ _ c.self.invariant.3,
)

pub returns-clause-ok : goal.returns-clause-ok
returns-clause-ok g c =
    let room = rw (← c.self.view_is) at c.room_from-room.ensures in
    let piece = length-take c.min-count.result c.args.bytes.now in
    rw (← c.self.view_is)
    (put_piece _ c.args.at c.room_from-room.result (take c.min-count.result c.args.bytes.now) _ c.index_mut.result.now
    c.copy_in.new.self c.from.result room (omega (arith, piece, c.min-count.ensures)) c.from.ensures
    c.index_mut.ensures.value (c.in_ok-copy_in.ensures {u = tt}).ok)
