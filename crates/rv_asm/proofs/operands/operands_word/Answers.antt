-- The values fit their fields by the kinds of the shape.
use Rattle.std.proofs.Common.{◌≡◌, sym, Some, Ok}
use Rattle.rv_asm.specs.Places.{place_in}
use Rattle.rv_asm.specs.Inner.Reading.{value_of, kinds_of}
use Rattle.rv_asm.proofs.ReadingLemmas.{fields_fit}
use Rattle.rv_asm.proofs.operands.operands_word.Goals as goal

pub word_by_values-requires : goal.word_by_values-requires
word_by_values-requires c m n small_m small_n is_m is_n =
    let places = place_in c.args.labels.now in
    let kinds = kinds_of c.args.shape in
    let two : value_of places c.args.here kinds.0 c.in-Some-others_of.second.now ≡ Ok (Some m) =
    rw (c.kinds_of-kind.ensures, is_m) at (sym (c.in_ok-b.ensures {u = tt})) in
    let three : value_of places c.args.here kinds.1 c.in-Some-others_of.third.now ≡ Ok (Some n) =
    rw (c.kinds_of-kind.ensures, is_n) at (sym (c.in_ok-c.ensures {u = tt})) in
    fields_fit places c.args.here c.args.shape _ _ _ m n (c.in-Some.ensures {u = tt}).fits small_m small_n two three
