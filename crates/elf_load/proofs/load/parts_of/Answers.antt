-- One header more.
use Rattle.std.proofs.Common.{◌∙◌, Ok, sym, arith}
use Rattle.std.proofs.lemmas.Result.{err_from_is_err_and}
use Rattle.elf_load.proofs.PartLemmas.{one_more, part_fault}
use Rattle.elf_load.proofs.load.parts_of.Goals as goal
use Rattle.elf_load.proofs.load.parts_of.Goals.{in-Some+in_ok-push, in_default}

pub returns-in_err-part : goal.returns-in_err-part
returns-in_err-part c =
    let header = rw c.items-in-loop-n.ensures at c.program_header-header.ensures.bytes in
    let exit = err_from_is_err_and c.from_residual.result c.from_residual.ensures.1 in
    rw (exit.1, exit.2)
    (part_fault c.args.file.now c.loop-n.parts.items c.loop-n.n c.half-count.result c.program_header-header.result.now
    c.in_err-part.field-0.0 _ (omega arith) header c.in_err-part.ensures
    c.loop-n.invariant)

pub loop-n-preserved : goal.loop-n-preserved
loop-n-preserved c =
    let header = rw c.items-in-loop-n.ensures at c.program_header-header.ensures.bytes in
    let step =
    one_more c.args.file.now c.loop-n.parts.items c.loop-n.n c.half-count.result c.program_header-header.result.now
    (Ok c.in_ok-part.field-0) (omega arith) header c.in_ok-part.ensures in
    elim c.match-branch-2.branch [
      | in-Some+in_ok-push w ↦
          rw (w.parts-is, w.in_ok-push.ensures.items) (sym (rw w.in-Some.is at step) ∙ c.loop-n.invariant)
      | in_default w ↦ rw w.parts-is (sym (rw w.in_default.is at step) ∙ c.loop-n.invariant)
    ]
