-- Changes of a board that keep its equipment.
use Rattle.std.proofs.Common.{◌≡◌, ◌∷◌, ◌∙◌, ℕ, Bool, List, [], fold, Option, None, Some}
use Rattle.std.proofs.Common.{refl}
use Rattle.std.proofs.lemmas.List.{length-map, length-set}
use Rattle.dev_core.specs.declared.payload.Payload.{Payload}
use Rattle.elf_load.specs.declared.image.Part.{Part}
use Rattle.elf_load.specs.Map.{contents}
use Rattle.board.specs.Changes.{handed, with_bytes, with_halted, with_pc, with_shown}
use Rattle.board.specs.Changes.{with_speed}
use Rattle.board.specs.New.{reset, reset_core}
use Rattle.board.specs.Stretch.{stretch}
use Rattle.board.specs.View.{View}
use Rattle.board_space.proofs.CopyLemmas.{plan-copied}
use Rattle.board.proofs.NumberLemmas.{cores-stretch}
use Rattle.lab_state.specs.Board.{Board}
use Rattle.lab_state.specs.One.{with_view}
use Rattle.monitor.specs.Images.{unreserved, with_each_pc, with_entry, with_part, with_parts}
use Rattle.check_laws.specs.Standing.{equipment_of, standing}

-- a change of a board that keeps its plan and the number of its processors
abbrev pub Keeps : (View → View) → Type 0
Keeps f = (v : View) → equipment_of (f v) ≡ equipment_of v

one_stands : (f : View → View) → Keeps f → (name : List ℕ) (view : Option View) →
    standing (with_view f (record { name = name; view = view })) ≡ standing (record { name = name; view = view })
one_stands f keeps name None = refl
one_stands f keeps name (Some v) = rw (keeps v) refl

pub stands : (f : View → View) → Keeps f → (board : Board) → standing (with_view f board) ≡ standing board
stands f keeps board = one_stands f keeps board.name board.view

pub reset_keeps : Keeps reset
reset_keeps v = rw (length-map v.cores reset_core) refl

pub bytes_keep : (at : ℕ) (bytes : List ℕ) → Keeps (λ v. with_bytes v at bytes)
bytes_keep at bytes v = rw (plan-copied v.space at bytes) refl

pub pc_keeps : (hart value : ℕ) → Keeps (λ v. with_pc v hart value)
pc_keeps hart value v = rw (length-set v.cores hart _) refl

pub halted_keeps : (hart : ℕ) (value : Bool) → Keeps (λ v. with_halted v hart value)
halted_keeps hart value v = rw (length-set v.cores hart _) refl

pub speed_keeps : (speed : ℕ) → Keeps (λ v. with_speed v speed)
speed_keeps speed v = refl

pub shown_keeps : (dev : ℕ) → Keeps (λ v. with_shown v dev)
shown_keeps dev v = refl

pub handed_keeps : (dev : ℕ) (payload : Payload) → Keeps (λ v. handed v dev payload)
handed_keeps dev payload v = refl

part_keeps : (parts : List Part) → Keeps (λ v. fold with_part v parts)
part_keeps [] v = refl
part_keeps (part ∷ parts) v =
    part_keeps parts (with_part v part) ∙ bytes_keep part.at (contents part) v

each_keeps : (pc : ℕ) → Keeps (λ v. with_each_pc v pc)
each_keeps pc v = rw (length-map v.cores _) refl

entry_keeps : (entry : Option ℕ) → Keeps (λ v. with_entry v entry)
entry_keeps None v = refl
entry_keeps (Some pc) v = each_keeps pc v

pub image_keeps : (parts : List Part) (entry : Option ℕ) → Keeps (λ v. with_entry (with_parts v parts) entry)
image_keeps parts entry v =
    entry_keeps entry (with_parts v parts) ∙ part_keeps parts (unreserved v)

module _ (plans : (v : View) (from a n : ℕ) → (stretch v from a n).view.space.plan ≡ v.space.plan) where
  pub stretch_keeps : (v : View) (from a n : ℕ) → equipment_of (stretch v from a n).view ≡ equipment_of v
  stretch_keeps v from a n = rw (plans v from a n, cores-stretch v from a n) refl
