use Rattle.lab_encoding.specs.Inner.Laws.{all_bytes}
use Rattle.page_ram.specs.Pages.{page_of}
use Rattle.lab_snap.specs.Inner.MemoryLaws.{zeros_are_bytes}
use Rattle.lab_snap.proofs.memory.encode_used.Goals as goal

pub returns-in_ok-extend_from_slice-clause-bytes : goal.returns-in_ok-extend_from_slice-clause-bytes
returns-in_ok-extend_from_slice-clause-bytes c =
    rw (← c.in-Some.ensures.page) (all_bytes _ c.bytes_law.ensures)

pub returns-in_default-clause-bytes : goal.returns-in_default-clause-bytes
returns-in_default-clause-bytes c =
    zeros_are_bytes (page_of c.args.memory.now c.args.number) c.in_default.ensures.zero
