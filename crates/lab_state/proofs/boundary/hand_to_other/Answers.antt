-- A device that is not the one that sent it was handed the payload.
use Rattle.std.proofs.Common.{◌≡◌, ◌∙◌, false, refl, sym, ap, ◌++◌}
use Rattle.std.specs.Prelude.{option_and_then}
use Rattle.std.specs.Option.{option_map, option_to_list}
use Rattle.std.proofs.lemmas.Option.{slice_get-get_or}
use Rattle.lab_num.specs.Key.{same_member}
use Rattle.lab_num.proofs.ListLemmas.{set-change}
use Rattle.board.specs.Changes.{handed}
use Rattle.lab_state.specs.Board.{Board}
use Rattle.lab_state.specs.Boundary.{Handed, note_item, note_by, to_member}
use Rattle.lab_state.specs.One.{with_view}
use Rattle.lab_state.proofs.RoundLemmas.{can_take}
use Rattle.lab_state.proofs.boundary.hand_to_other.Goals as goal

pub deliver-note-requires : goal.deliver-note-requires
deliver-note-requires g c =
    (can_take c.args.boards.now c.args.member.board.0 c.args.member.dev c.index-boards-member.result c.requires).1

pub returns : goal.returns
returns g c =
    let m = c.args.member in
    let can = can_take c.args.boards.now m.board.0 m.dev c.index-boards-member.result c.requires in
    let found = slice_get-get_or c.args.boards.now m.board.0 c.index-boards-member.result can.0 in
    let now : Handed = record { boards = c.args.boards.now; notes = c.args.notes.now.items } in
    let step = with_view (λ v. handed v m.dev c.args.payload.now) in
    let boards =
    set-change step c.args.boards.now m.board.0 c.index-boards-member.is
    (c.deliver-note.ensures.board ∙ ap step (sym c.index-boards-member.is)) in
    let view = ap (option_and_then (λ (board : Board). board.view)) found in
    let notes =
    c.in_ok-push_note.ensures
    ∙ ap (λ note. c.args.notes.now.items ++ option_to_list (option_map (note_item c.args.at.0 m) note))
    (c.deliver-note.ensures.note ∙ ap (option_and_then (note_by m.dev c.args.payload.now)) (sym view)) in
    let both : ◌≡◌ {A = Handed} _ (to_member c.args.at.0 c.args.payload.now now m) =
    λ i. record { boards = boards i; notes = notes i } in
    let other : same_member m c.args.from ≡ false = sym c.eq.ensures ∙ c.if-eq.false in
    both ∙ rw other refl
