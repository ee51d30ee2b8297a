-- Commands that load images.
use Rattle.std.specs.Prelude.{ℕ, ◌+◌, ◌%◌, ◌^◌, ◌==◌, ◌&&◌, nat_le, nat_lt, Bool, true, List, length, map}
use Rattle.std.specs.Prelude.{Option, None, Some, Result, Ok, Err}
use Rattle.std.specs.List.{fold, list_all, slice_get}
use Rattle.std.specs.Result.{result_map_both}
use Rattle.elf_load.specs.declared.image.Image.{Image}
use Rattle.elf_load.specs.declared.image.Part.{Part}
use Rattle.elf_load.specs.Image as elf
use Rattle.elf_load.specs.Map.{contents}
use Rattle.ihex_load.specs.Image as hex
use Rattle.lab_io.specs.Held.{Held}
use Rattle.sys_bus.specs.declared.region.Target.{Target}
use Rattle.sys_bus.specs.declared.region.Target.TheVariants.{Ram, Clint, Plic, Dev, Nothing}
use Rattle.board.specs.Changes.{cleared, holds_each, with_bytes}
use Rattle.board.specs.Space.{Space, memory_at, target_at}
use Rattle.board.specs.View.{View}
use Rattle.rv_hart.specs.Core.{Core, alignment}
use Rattle.resc_vars.specs.declared.cause.ScriptCause.{ScriptCause}
use Rattle.resc_vars.specs.declared.cause.ScriptCause.TheVariants.{Address}
use Rattle.monitor.specs.declared.fault.Cause.{Cause}
use Rattle.monitor.specs.declared.fault.Cause.TheVariants.{Elf, Hex}
use Rattle.monitor.specs.Answer.{Answer, Faults, Did, Done, leaves, told_at, answer_at, loads}
use Rattle.monitor.specs.Refusal.{◌>>=◌, require}
use Rattle.monitor.specs.Selected.{Equipped, equipped, with_board}
use Rattle.monitor.specs.State.{State, LinePlace}

-- how many bytes a part gives, its zeros among them
abbrev pub size : Part → ℕ
size part = length part.bytes + part.zeros

-- Each byte of a part has its place in a memory. A part with as many bytes as there are addresses, or one that passes
-- the last address, has a byte that no memory has.
abbrev pub holds_part : View → Part → Bool
holds_part v part =
    nat_lt (size part) (2 ^ 32) && nat_le (part.at + size part) (2 ^ 32) && holds_each v.space part.at (size part)

-- execution may begin at the entry, if there is one: it is divisible by 4, or with compressed instructions by 2
abbrev pub is_entry : View → Option ℕ → Bool
is_entry v None = true
is_entry v (Some pc) = pc % alignment v.space.plan.letters == 0

-- a board with the bytes and the zeros of a part in its memories
abbrev pub with_part : View → Part → View
with_part v part = with_bytes v part.at (contents part)

-- a board on which nothing is reserved
abbrev pub unreserved : View → View
unreserved v = record v { watch = cleared v.watch }

-- a board with the parts of an image in its memories, one after another, and with no reservation, even if there is no
-- part
abbrev pub with_parts : View → List Part → View
with_parts v parts = fold with_part (unreserved v) parts

-- a board of which every processor's next instruction is at this address
abbrev pub with_each_pc : View → ℕ → View
with_each_pc v pc = record v { cores = map (λ (core : Core). record core { pc = pc }) v.cores }

-- a board whose processors go on at the entry, if there is one
abbrev pub with_entry : View → Option ℕ → View
with_entry v None = v
with_entry v (Some pc) = with_each_pc v pc

-- an image is loaded, unless a byte, a zero or the entry is refused; then nothing is
abbrev pub load_image : State → Equipped → Image → Result Done ScriptCause
load_image s on image = do
  fits ← require (list_all (holds_part on.view) image.parts && is_entry on.view image.entry) Address
  Ok (leaves (with_board s on (λ v. with_entry (with_parts v image.parts) image.entry)))

-- the image of a file, or the fault that is told of it
abbrev pub elf_image : List ℕ → Result Image Cause
elf_image bytes = result_map_both (λ image. image) (λ fault. Elf fault) (elf.image_of bytes)

abbrev pub hex_image : List ℕ → Result Image Cause
hex_image bytes = result_map_both (λ image. image) (λ fault. Hex fault) (hex.image_of bytes)

-- the image of a file is loaded, or its fault is told at the line
abbrev pub load_read : State → LinePlace → Equipped → Result Image Cause → Answer
load_read s place on (Ok image) = answer_at place (load_image s on image)
load_read s place on (Err cause) = Faults (told_at place cause)

-- sysbus LoadELF @path
abbrev pub load_elf : Held → State → LinePlace → List ℕ → Did
load_elf held s place path =
    loads held place path (equipped s) (λ on bytes. load_read s place on (elf_image bytes))

-- sysbus LoadHEX @path: such an image has no entry, and each processor goes on where it is
abbrev pub load_hex : Held → State → LinePlace → List ℕ → Did
load_hex held s place path =
    loads held place path (equipped s) (λ on bytes. load_read s place on (hex_image bytes))

-- the byte of memory at an address, if a memory has it
abbrev pub byte_of : Space → Target → Option ℕ
byte_of s (Ram part at) = slice_get (memory_at s part) at
byte_of s (Dev dev at) = None
byte_of s (Clint at) = None
byte_of s (Plic at) = None
byte_of s Nothing = None

abbrev pub byte_held : View → ℕ → Option ℕ
byte_held v address = byte_of v.space (target_at v.space address 1)
