-- What is left of a text is its end.
use Rattle.std.proofs.Common.{◌≡◌, ◌∙◌, take, drop, ap, sym}
use Rattle.std.specs.String.{string_bytes}
use Rattle.std.proofs.lemmas.List.{take-append-drop}
use Rattle.resc_vars.specs.Inner.Rest.{EndsWith}
use Rattle.resc_vars.proofs.RestLemmas.{ends_join}
use Rattle.resc_vars.proofs.lines.TextLines.take_item.Goals as goal

pub first_item-requires-clause-ends : goal.first_item-requires-clause-ends
first_item-requires-clause-ends c =
    let held = string_bytes c.self.inside.text.value in
    let at = c.self.inside.extent.at in
    let same : c.as_str.result.now ≡ held = cc in
    rw (c.range_from-text.ensures.value, same) (take at held, sym (take-append-drop at held))

pub extent_of-self-inside-requires : goal.extent_of-self-inside-requires
extent_of-self-inside-requires c =
    let held = string_bytes c.self.inside.text.value in
    let at = c.self.inside.extent.at in
    let same : c.as_str.result.now ≡ held = cc in
    let also : c.as_str-in-Some.result.now ≡ held = cc in
    let text : c.range_from-text.result.now ≡ drop at held = c.range_from-text.ensures.value ∙ ap (drop at) same in
    let end : EndsWith held (drop at held) = (take at held, sym (take-append-drop at held)) in
    let found = rw c.in-Some.is at c.in_ok-first_item.ensures in
    let left : EndsWith (drop at held) c.in-Some.rest.text.now = rw text at found.1.0 in
    rw also (ends_join held (drop at held) c.in-Some.rest.text.now end left)
