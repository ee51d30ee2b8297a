-- The fault of the segments, after the tests of the header.
use Rattle.std.proofs.Common.{◌≡◌, Err, Global, Vec, subst}
use Rattle.std.proofs.lemmas.Result.{err_from_is_err_and}
use Rattle.elf_load.specs.declared.image.Part.{Part}
use Rattle.elf_load.specs.Inner.Parts.{Gives, parts_told}
use Rattle.elf_load.proofs.PartLemmas.{parts_fault}
use Rattle.elf_load.proofs.load.read_elf.Goals as goal

pub returns-in_err-parts : goal.returns-in_err-parts
returns-in_err-parts c =
    let exit = err_from_is_err_and c.from_residual-in_err-parts.result c.from_residual-in_err-parts.ensures.1 in
    let same : c.in_ok-shared.shared ≡ c.args.file.now = (c.in_ok-shared.ensures {u = tt}).ok in
    let parts =
    subst (λ f. Gives {X = Vec Part Global} (λ parts. parts.items) (parts_told f) (Err c.in_err-parts.field-0.0)) same
    (c.in_err-parts.ensures {u = tt}) in
    record {
      read =
          rw (exit.1, exit.2)
          (parts_fault c.args.file.now c.in_err-parts.field-0.0 ((c.in_ok-check_header.ensures {u = tt}).ok) parts);
    }
