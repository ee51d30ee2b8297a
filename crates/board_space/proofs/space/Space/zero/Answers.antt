use Rattle.std.proofs.Common.{◌+◌, ◌∙◌, arith}
use Rattle.page_ram.specs.Bytes.{zeros}
use Rattle.board_space.specs.Changes.{in_memory}
use Rattle.board_space.proofs.CopyLemmas.{more_zeros, still_memory}
use Rattle.board_space.proofs.space.Space.zero.Goals as goal
use Rattle.lab_num.proofs.ListLemmas.{range_passes}

pub zero_piece-done-requires-clause-memory : goal.zero_piece-done-requires-clause-memory
zero_piece-done-requires-clause-memory g c =
    rw (c.from.ensures, c.from-in-loop-done.ensures)
    (still_memory c.args.self.now c.loop-done.self c.args.at (c.args.at + c.loop-done.done) (zeros c.loop-done.done)
    c.loop-done.invariant.self
    ∙ range_passes (in_memory c.args.self.now) c.args.at c.args.count c.loop-done.done c.requires c.loop-done-test.true)

pub loop-done-preserved : goal.loop-done-preserved
loop-done-preserved g c =
    record {
      done = omega (arith, c.zero_piece-done.ensures.most, c.loop-done.invariant.done);
      self =
          more_zeros c.args.self.now c.loop-done.self c.zero_piece-done.new.self c.args.at c.loop-done.done
          c.zero_piece-done.result c.loop-done.invariant.self
          (rw (c.from.ensures, c.from-in-loop-done.ensures) at c.zero_piece-done.ensures.after);
    }
