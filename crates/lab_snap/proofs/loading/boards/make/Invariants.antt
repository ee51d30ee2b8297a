-- The first memories are in place.
use Rattle.std.proofs.Common.{◌≡◌, length}
use Rattle.lab_state.specs.One.{fitted}
use Rattle.lab_snap.proofs.MadeBoard.{half_made}
use Rattle.lab_snap.proofs.loading.boards.make.Given as goal

abbrev pub invariant-loop-memory : goal.invariant-loop-memory
invariant-loop-memory g l = record {
  part : l.part ≡ length l.yielded;
  lab : l.lab ≡ record l.fn.lab { lab = fitted l.fn.lab.lab l.b.0 (half_made l.b.0 l.fn.plan l.yielded) };
}
