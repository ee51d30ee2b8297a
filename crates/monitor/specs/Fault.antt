-- The texts of refusals.
use Rattle.std.specs.Prelude.{ℕ, List, ◌++◌, codes}
use Rattle.std.specs.Fmt.{decimal}
use Rattle.elf_load.specs.declared.image.ElfFault.{ElfFault}
use Rattle.elf_load.specs.declared.image.ElfFault.TheVariants as elf
use Rattle.ihex_load.specs.declared.fault.HexFault.{HexFault}
use Rattle.ihex_load.specs.declared.fault.HexFault.TheVariants as hex
use Rattle.repl_read.specs.declared.fault.PlatCause.{PlatCause}
use Rattle.repl_read.specs.declared.fault.PlatCause.TheVariants as plat
use Rattle.resc_vars.specs.Cause.{script_cause_text}
use Rattle.monitor.specs.declared.fault.Cause.{Cause}
use Rattle.monitor.specs.declared.fault.Cause.TheVariants.{Script, Plat, Elf, Hex}
use Rattle.monitor.specs.declared.fault.ScriptFault.{ScriptFault}

-- the code and the text of a fault of a platform
abbrev pub plat_cause_text : PlatCause → List ℕ
plat_cause_text plat.Form = codes "P1 form"
plat_cause_text plat.Feature = codes "P2 feature"
plat_cause_text plat.TypeName = codes "P3 type"
plat_cause_text plat.Attribute = codes "P4 attribute"
plat_cause_text plat.Value = codes "P5 value"
plat_cause_text plat.Missing = codes "P6 missing"
plat_cause_text plat.Twice = codes "P7 twice"
plat_cause_text plat.Reference = codes "P8 reference"
plat_cause_text plat.Overlap = codes "P9 overlap"
plat_cause_text plat.Line = codes "P10 line"
plat_cause_text plat.Count = codes "P11 count"
plat_cause_text plat.Core = codes "P12 core"

-- The same of the faults of images. Want of memory is none of a file, and has no text.
abbrev pub elf_cause_text : ElfFault → List ℕ
elf_cause_text elf.Short = codes "E1 short"
elf_cause_text elf.NotElf = codes "E2 not elf"
elf_cause_text elf.Class = codes "E3 class"
elf_cause_text elf.Order = codes "E4 order"
elf_cause_text elf.Machine = codes "E5 machine"
elf_cause_text elf.FileType = codes "E6 type"
elf_cause_text elf.Headers = codes "E7 headers"
elf_cause_text elf.Segment = codes "E8 segment"
elf_cause_text elf.Memory = codes ""

abbrev pub hex_cause_text : HexFault → List ℕ
hex_cause_text hex.Form = codes "H1 form"
hex_cause_text hex.Sum = codes "H2 sum"
hex_cause_text hex.NoEnd = codes "H3 no end"
hex_cause_text hex.Kind = codes "H4 kind"
hex_cause_text hex.Length = codes "H5 length"
hex_cause_text hex.Memory = codes ""

abbrev pub cause_text : Cause → List ℕ
cause_text (Script cause) = script_cause_text cause
cause_text (Plat cause) = plat_cause_text cause
cause_text (Elf fault) = elf_cause_text fault
cause_text (Hex fault) = hex_cause_text fault

-- a fault as its last line says it, without the line feed
abbrev pub fault_text : ScriptFault → List ℕ
fault_text fault =
    codes "error: " ++ fault.file ++ codes ":" ++ decimal fault.line ++ codes ": " ++ cause_text fault.cause
