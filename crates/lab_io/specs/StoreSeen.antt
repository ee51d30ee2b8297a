-- What contracts see of a store in memory, and what a call changes of it.
use Rattle.std.specs.Prelude.{ℕ, ◌⊎◌, List, ◌++◌, Option, Contains, IsNone, refl}
use Rattle.std.specs.Coded.{Coded, code_by, coded×, coded_list, coded_ℕ, coded_option}
use Rattle.std.specs.FinMap.{code, get, insert}
use Rattle.lab_io.specs.Known.{counted}
use Rattle.lab_io.specs.Held.{Held, read_faults}
use Rattle.lab_io.specs.Store.{StoreUse, get_uses, put_faults, put_uses}
use Rattle.lab_io.specs.declared.files.ReadAnswer.{ReadAnswer}
use Rattle.lab_io.specs.declared.store.StoreAnswer.{StoreAnswer}
use Rattle.lab_io.specs.declared.store.StoreAnswer.TheVariants.{Done, Failed, Memory}

-- what the names keep, the calls, the numbers of the calls that are to fail, how many calls there have been, and how
-- many of them have failed
pub record StoreSeen : Type 0 where
  pub kept : Held
  pub uses : List StoreUse
  pub failing : List ℕ
  pub calls : ℕ
  pub faults : ℕ

-- the codes by which proofs tell such values apart: the fields as pairs
abbrev pub use_code : Coded StoreUse
use_code =
    code_by (List ℕ × Option (List ℕ)) (coded× (coded_list coded_ℕ) (coded_option (coded_list coded_ℕ)))
    (λ call. (call.name, call.put)) (λ pairs. record { name = pairs.0; put = pairs.1 }) (λ _. refl)

abbrev pub store_code : Coded StoreSeen
store_code =
    code_by (Held × (List StoreUse × (List ℕ × (ℕ × ℕ))))
    (coded× (code (coded_list coded_ℕ) (coded_list coded_ℕ))
    (coded× (coded_list use_code) (coded× (coded_list coded_ℕ) (coded× coded_ℕ coded_ℕ))))
    (λ store. (store.kept, (store.uses, (store.failing, (store.calls, store.faults)))))
    (λ pairs. record {
      kept = pairs.0;
      uses = pairs.1.0;
      failing = pairs.1.1.0;
      calls = pairs.1.1.1.0;
      faults = pairs.1.1.1.1;
    })
    (λ _. refl)

-- the call that comes next is to fail: its number is listed
abbrev pub IsListed : StoreSeen → Type 0
IsListed store = Contains store.failing store.calls

-- a get of a name that comes next is to fail: it is listed, or the name keeps nothing
abbrev pub IsGetToFail : StoreSeen → List ℕ → Type 0
IsGetToFail store name = IsListed store ⊎ IsNone (get store.kept name)

-- what the names keep after a put
abbrev pub held_after : StoreAnswer → Held → List ℕ → List ℕ → Held
held_after Done kept name bytes = insert kept name bytes
held_after Failed kept name bytes = kept
held_after Memory kept name bytes = kept

-- the store after a put has answered
abbrev pub after_put : StoreSeen → List ℕ → List ℕ → StoreAnswer → StoreSeen
after_put store name bytes answer = record {
  kept = held_after answer store.kept name bytes;
  uses = store.uses ++ put_uses answer name bytes;
  failing = store.failing;
  calls = counted store.calls;
  faults = put_faults answer store.faults;
}

-- the store after a get has answered
abbrev pub after_get : StoreSeen → List ℕ → ReadAnswer → StoreSeen
after_get store name answer = record store {
  uses = store.uses ++ get_uses answer name;
  calls = counted store.calls;
  faults = read_faults answer store.faults;
}
