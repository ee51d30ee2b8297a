use Rattle.std.proofs.Common.{◌∙◌, ap, arith, length, ℕ}
use Rattle.std.proofs.lemmas.List.{length-replicate}
use Rattle.page_ram.specs.Bytes.{zeros}
use Rattle.board_space.proofs.FitLemmas.{fit_memory}
use Rattle.board_space.proofs.CopyLemmas.{put_piece}
use Rattle.board_space.proofs.LineLemmas.{right_memories}
use Rattle.board_space.proofs.space.Space.zero_piece.Goals as goal

pub invariant_of-self : goal.invariant_of-self
invariant_of-self g c = (
  c.self.invariant.0,
  fit_memory _ c.from.result c.zero.new.self _ c.self.invariant.1
      (c.zero.ensures.size ∙ ap length c.index_mut.ensures.value),
  c.self.invariant.2,
  right_memories _ _ _ c.self.invariant.3,
)

pub returns-clause-after : goal.returns-clause-after
returns-clause-after g c =
    let room = rw (← c.self.view_is) at c.room_from-room.ensures in
    let count = length-replicate {A = ℕ} c.min-count.result 0 in
    rw (← c.self.view_is)
    (put_piece _ c.args.at c.room_from-room.result (zeros c.min-count.result) _ c.index_mut.result.now
    c.zero.new.self c.from.result room (omega (arith, count, c.min-count.ensures)) c.from.ensures
    c.index_mut.ensures.value c.zero.ensures.value)
