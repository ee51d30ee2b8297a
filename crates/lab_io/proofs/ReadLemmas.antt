-- What a read of one byte more than the limit tells of the whole.
use Rattle.std.proofs.Common.{◌≡◌, ◌∙◌, ap, ℕ, min, ◌+◌, ◌≤◌, List, length, take, Option, None, Some, IfSome}
use Rattle.std.proofs.Common.{option_map, arith, take_all}
use Rattle.std.proofs.lemmas.List.{length-take}

-- what fits into the limit is the whole
pub read_is_whole :
    (told : Option (List ℕ)) (limit : ℕ) (into : List ℕ) →
    IfSome (option_map (take (limit + 1)) told) (λ bytes. into ≡ bytes) → length into ≤ limit →
    IfSome told (λ bytes. into ≡ bytes)
read_is_whole None limit into given short = tt
read_is_whole (Some bytes) limit into given short =
    let front : into ≡ take (limit + 1) bytes = given in
    let long : length into ≡ min (limit + 1) (length bytes) = ap length front ∙ length-take (limit + 1) bytes in
    front ∙ take_all (limit + 1) bytes (omega (arith, long, short))
