use Rattle.std.proofs.Common.{◌≡◌, ◌∙◌, ◌≤◌, append-nil, length, string_bytes, sym, arith}
use Rattle.log_text.specs.Line.{with_byte}
use Rattle.log_text.proofs.Rising.{goes_open, place_within, put_back, with_byte_unended}
use Rattle.log_text.proofs.lines.Lines.take_byte.Goals as goal

pub insert-requires : goal.insert-requires
insert-requires c =
    let place = c.place_of-place.ensures in
    let within : c.place_of-place.result ≤ length c.self.inside.lines.items =
    rw (c.self.view_is ∙ c.take_out-line.ensures.lines)
    (place_within c.args.member c.args.self.now c.place_of-place.result place.value place.unended) in
    let counted = c.self.inside.lines.ok in
    omega arith

pub returns-clause-lines : goal.returns-clause-lines
returns-clause-lines c =
    let place = c.place_of-place.ensures in
    (c.in_ok-insert.ensures {u = tt}).items
    ∙ put_back c.args.member c.args.self.now c.place_of-place.result place.value place.unended c.args.at
    c.args.byte
    c.self.inside.lines.items c.take_out-line.result c.gather.new.line (c.self.view_is ∙ c.take_out-line.ensures.lines)
    c.take_out-line.ensures.line (c.in_ok-gather.ensures {u = tt}).ok
    (sym c.is_ending-is_ended.ensures ∙ c.if-is_ended.false)

pub invariant_of-self-2 : goal.invariant_of-self-2
invariant_of-self-2 c =
    let place = c.place_of-place.ensures in
    let goes_on = sym c.is_ending-is_ended.ensures ∙ c.if-is_ended.false in
    let after : c.insert.new.self.items ≡ with_byte c.args.self.now c.args.member c.args.at c.args.byte =
    (c.in_ok-insert.ensures {u = tt}).items
    ∙ put_back c.args.member c.args.self.now c.place_of-place.result place.value place.unended c.args.at
    c.args.byte
    c.self.inside.lines.items c.take_out-line.result c.gather.new.line (c.self.view_is ∙ c.take_out-line.ensures.lines)
    c.take_out-line.ensures.line (c.in_ok-gather.ensures {u = tt}).ok goes_on in
    rw after
    (with_byte_unended c.args.member c.args.self.now c.place_of-place.result place.value place.unended c.args.at
    c.args.byte
    c.take_out-line.result c.take_out-line.ensures.line goes_on)

pub returns-then-goes_on-clause-text : goal.returns-then-goes_on-clause-text
returns-then-goes_on-clause-text c =
    let place = c.place_of-place.ensures in
    rw (goes_open c.args.member c.args.self.now c.place_of-place.result place.value place.unended c.args.at c.args.byte
    (sym c.goes_on.ensures ∙ c.if-goes_on.true))
    (sym (append-nil (string_bytes c.args.text.now)))
