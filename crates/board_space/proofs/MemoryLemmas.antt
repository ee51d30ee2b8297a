-- What words of memories are, and what a store in a memory leaves.
use Rattle.std.proofs.Common.{◌≡◌, ℕ, ◌<◌, List, [], length, ap, ◌∙◌}
use Rattle.std.specs.Prelude.{Result, Ok, Err, slice_index_or}
use Rattle.std.specs.Result.{OnOk, OnErr}
use Rattle.std.proofs.lemmas.List.{get_or_default, set-get_or}
use Rattle.board_space.specs.Space.{Space, memory_at, with_memory}

-- the memory of a number
memory-is :
    (s : Space) (part from : ℕ) (d memory : List ℕ) → part < length s.memories → from ≡ part →
    memory ≡ slice_index_or s.memories from d → memory ≡ memory_at s part
memory-is s part from d memory there from_is is =
    is ∙ ap (λ i. slice_index_or s.memories i d) from_is ∙ get_or_default s.memories part d [] there

pub put_on_ok :
    {T E : Type 0} (s : Space) (part from : ℕ) (d memory new : List ℕ) (put : List ℕ → List ℕ) (r : Result T E) →
    part < length s.memories → from ≡ part → memory ≡ slice_index_or s.memories from d → OnOk r (new ≡ put memory) →
    OnOk r (with_memory s from new ≡ with_memory s part (put (memory_at s part)))
put_on_ok s part from d memory new put (Ok x) there from_is is new_is =
    ap (λ i. with_memory s i new) from_is
    ∙ ap (with_memory s part) (new_is ∙ ap put (memory-is s part from d memory there from_is is))
put_on_ok s part from d memory new put (Err e) there from_is is new_is = tt

pub same_on_err :
    {T E : Type 0} (s : Space) (from : ℕ) (d memory new : List ℕ) (r : Result T E) →
    memory ≡ slice_index_or s.memories from d → OnErr r (new ≡ memory) → OnErr r (with_memory s from new ≡ s)
same_on_err s from d memory new (Ok x) is new_is = tt
same_on_err s from d memory new (Err e) is new_is =
    ap (with_memory s from) (new_is ∙ is)
    ∙ ap (λ memories. record s { memories = memories }) (set-get_or s.memories from d)
