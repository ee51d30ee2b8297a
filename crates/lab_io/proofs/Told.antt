-- What is told of a store.
use Rattle.std.proofs.Common.{◌≡◌, ℕ, List, ◌++◌, length, take, None, refl}
use Rattle.std.proofs.lemmas.List.{take_at}
use Rattle.lab_io.specs.Store.{kept_after}
use Rattle.lab_io.specs.declared.store.StoreAnswer.{StoreAnswer}
use Rattle.lab_io.specs.declared.store.StoreAnswer.TheVariants.{Done, Failed, Memory}

-- calls that were told last are taken back
pub taken_back : {A : Type 0} (xs ys : List A) → take (length xs) (xs ++ ys) ≡ xs
taken_back xs ys = take_at xs ys (length xs) refl

-- of a store that does not tell what it keeps nothing is told after a put
pub untold : (answer : StoreAnswer) (name bytes : List ℕ) → kept_after answer None name bytes ≡ None
untold Done name bytes = refl
untold Failed name bytes = refl
untold Memory name bytes = refl
