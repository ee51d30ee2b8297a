-- A file that is read line by line.
use Rattle.std.proofs.Common.{◌≡◌, ◌∷◌, ◌+◌, ◌%◌, ℕ, List, Result, Ok, Err, refl, ap, sym, append_assoc, append-nil}
use Rattle.elf_load.specs.declared.image.Part.{Part}
use Rattle.ihex_load.specs.declared.fault.HexFault.{HexFault}
use Rattle.ihex_load.specs.declared.record.Record.{Record}
use Rattle.ihex_load.specs.declared.record.Record.TheVariants.{Nothing, Data, EndOfFile, Base}
use Rattle.ihex_load.specs.Record.{line_of}
use Rattle.ihex_load.specs.Image.{records, placed, parts_of, space_size}
use Rattle.ihex_load.specs.Inner.Course.{told_from, told_behind}

-- after a record, by what the later lines say
behind :
    (base : ℕ) (parts : List Part) (later : List (List ℕ)) (record_ : Record) (rest : Result (List Record) HexFault) →
    records later ≡ rest → (line : List ℕ) → line_of line ≡ Ok record_ →
    told_from base parts (line ∷ later) ≡ told_behind base parts later (Ok record_)
behind base parts later Nothing (Ok all) is line says = rw (says, is) refl
behind base parts later Nothing (Err fault) is line says = rw (says, is) refl
behind base parts later (Data offset bytes) (Ok all) is line says =
    rw (says, is) (ap Ok (sym (append_assoc parts (placed ((base + offset) % space_size) bytes) (parts_of base all))))
behind base parts later (Data offset bytes) (Err fault) is line says = rw (says, is) refl
behind base parts later EndOfFile rest is line says = rw says (ap Ok (append-nil parts))
behind base parts later (Base address) (Ok all) is line says = rw (says, is) refl
behind base parts later (Base address) (Err fault) is line says = rw (says, is) refl
