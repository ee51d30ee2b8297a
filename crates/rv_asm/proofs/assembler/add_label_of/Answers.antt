-- The map has the label, where it had none.
use Rattle.std.proofs.Common.{◌≡◌, ◌∙◌, ℕ, List, sym, ap, false}
use Rattle.std.specs.Option.{option_map}
use denote.Ref.{Bor}
use Rattle.std.specs.Prelude.{is_some}
use Rattle.std.proofs.lemmas.Map.Text.{hash_map_updates_str}
use Rattle.rv_asm.specs.Places.{place_in}
use Rattle.rv_asm.proofs.ProgramLemmas.{update-absent}
use Rattle.rv_asm.proofs.assembler.add_label_of.Goals as goal

pub returns : goal.returns
returns c name =
    let label = c.in-Some.label.now in
    let is = sym c.label_of.ensures ∙ ap (option_map (λ (x : Bor (List ℕ)). x.now)) c.in-Some.is in
    let put =
    hash_map_updates_str label c.args.labels.now c.insert.new.self _ (c.in_ok-insert.ensures {u = tt}).updates name in
    let absent : is_some (place_in c.args.labels.now label) ≡ false =
    sym c.contains_key.ensures ∙ c.if-contains_key.false in
    rw is (put ∙ update-absent (place_in c.args.labels.now) label name c.args.address absent)
