use Rattle.std.proofs.Common.{◌≡◌, ◌+◌, ◌-◌, ◌∙◌, arith, take, drop, length}
use Rattle.std.proofs.lemmas.List.{length-drop, take_all}
use Rattle.board_space.specs.Changes.{in_memory}
use Rattle.board_space.proofs.CopyLemmas.{one_more, front_of, on_err, still_memory}
use Rattle.board_space.proofs.space.Space.copy_in.Goals as goal
use Rattle.lab_num.proofs.ListLemmas.{range_passes}

pub copy_piece-requires-clause-memory : goal.copy_piece-requires-clause-memory
copy_piece-requires-clause-memory g c =
    rw c.from.ensures
    (still_memory c.args.self.now c.loop-done.self c.args.at (c.args.at + c.loop-done.done)
    (take c.loop-done.done c.args.bytes.now) c.loop-done.invariant.self
    ∙ range_passes (in_memory c.args.self.now) c.args.at (length c.args.bytes.now) c.loop-done.done c.requires
    c.loop-done-test.true)

pub returns-in_err-done-clause-err : goal.returns-in_err-done-clause-err
returns-in_err-done-clause-err g c =
    let bytes = c.args.bytes.now in
    let done = c.loop-done.done in
    let left = length-drop done bytes in
    let rest : take (length bytes - done) (drop done bytes) ≡ drop done bytes =
    take_all (length bytes - done) (drop done bytes) (omega (arith, left)) in
    on_err c.from_residual.result
    (front_of c.args.self.now c.loop-done.self c.copy_piece.new.self c.args.at done bytes c.loop-done.invariant.done
    c.loop-done.invariant.self (rw (rest, c.from.ensures) at ((c.in_err-done.ensures {u = tt}).err)))

pub loop-done-preserved : goal.loop-done-preserved
loop-done-preserved g c =
    let bytes = c.args.bytes.now in
    let done = c.loop-done.done in
    let left = length-drop done bytes in
    let rest : take (length bytes - done) (drop done bytes) ≡ drop done bytes =
    take_all (length bytes - done) (drop done bytes) (omega (arith, left)) in
    let ok = rw (rest, c.from.ensures) at (c.in_ok-done.ensures {u = tt}) in
    record {
      done = omega (arith, ok.count.1, left, c.loop-done.invariant.done);
      self =
          one_more c.args.self.now c.loop-done.self c.copy_piece.new.self c.args.at done c.in_ok-done.field-0 bytes
          c.loop-done.invariant.done c.loop-done.invariant.self ok.ok;
    }
