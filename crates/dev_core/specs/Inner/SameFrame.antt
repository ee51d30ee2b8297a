-- To compare frames by `same_frame` is an equivalence.
use Rattle.std.specs.Cmp.{IsEquivalence, bool_eq_equiv}
use Rattle.std.specs.Cmp.Lexicographic.{nat_list_eq_equiv}
use Rattle.std.proofs.lemmas.Cmp.{and_equiv, on_equiv, nat_eq_equiv}
use Rattle.dev_core.specs.Frame.{FrameData, same_frame}

pub same_frame_equiv : IsEquivalence same_frame
same_frame_equiv =
    and_equiv
    (and_equiv
    (and_equiv (on_equiv (λ (f : FrameData). f.id) nat_eq_equiv) (on_equiv (λ (f : FrameData). f.remote) bool_eq_equiv))
    (on_equiv (λ (f : FrameData). f.len) nat_eq_equiv))
    (on_equiv (λ (f : FrameData). f.bytes) nat_list_eq_equiv)
