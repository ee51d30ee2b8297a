-- What a store keeps, how it is used, and what one call has answered.
use Rattle.std.specs.Prelude.{ℕ, List, [], ◌∷◌, Option, Some, None}
use Rattle.std.specs.Option.{option_map}
use Rattle.std.specs.FinMap.{insert}
use Rattle.lab_io.specs.Held.{Held}
use Rattle.lab_io.specs.Known.{counted}
use Rattle.lab_io.specs.declared.files.ReadAnswer.{ReadAnswer}
use Rattle.lab_io.specs.declared.files.ReadAnswer.TheVariants as read
use Rattle.lab_io.specs.declared.store.StoreAnswer.{StoreAnswer}
use Rattle.lab_io.specs.declared.store.StoreAnswer.TheVariants.{Done, Failed, Memory}

-- one call: its name, and the bytes that a put gives. A get gives none.
pub record StoreUse : Type 0 where
  pub name : List ℕ
  pub put : Option (List ℕ)

abbrev pub put_of : List ℕ → List ℕ → StoreUse
put_of name bytes = record { name = name; put = Some bytes }

abbrev pub get_of : List ℕ → StoreUse
get_of name = record { name = name; put = None }

-- what is kept after a put: the bytes under the name, if it was done, and else what was kept before
abbrev pub kept_after : StoreAnswer → Option Held → List ℕ → List ℕ → Option Held
kept_after Done kept name bytes = option_map (λ held. insert held name bytes) kept
kept_after Failed kept name bytes = kept
kept_after Memory kept name bytes = kept

-- the calls that are told of a put and of a get; one that found no memory is not told
abbrev pub put_uses : StoreAnswer → List ℕ → List ℕ → List StoreUse
put_uses Done name bytes = put_of name bytes ∷ []
put_uses Failed name bytes = put_of name bytes ∷ []
put_uses Memory name bytes = []

abbrev pub get_uses : ReadAnswer → List ℕ → List StoreUse
get_uses read.Done name = get_of name ∷ []
get_uses read.Failed name = get_of name ∷ []
get_uses read.TooLarge name = get_of name ∷ []
get_uses read.Memory name = []

-- an exact count of faults after a put: one that has failed is counted, and no other
abbrev pub put_faults : StoreAnswer → ℕ → ℕ
put_faults Done faults = faults
put_faults Failed faults = counted faults
put_faults Memory faults = faults
