-- Which names have been asked for, list after list.
use Rattle.std.proofs.Common.{◌≡◌, ◌∷◌, ◌++◌, ◌∙◌, ℕ, List, [], refl, sym, append_assoc, append-nil}
use Rattle.lab_io.specs.Known.{grown}
use Rattle.lab_io.specs.Asked.{AskedNames, AsksSome, AsksUpTo}
use Rattle.lab_io.proofs.Grown.{grown-append, grown-nil}

-- none of these names has been asked for
pub asks_none : (names : List (List ℕ)) (log : AskedNames) → AsksSome names log log
asks_none names log = record { passed = []; coming = names; all = refl; asked = sym (grown-nil log) }

-- all of these names have been asked for
pub asks_all : (names : List (List ℕ)) (log log' : AskedNames) → log' ≡ grown log names → AsksSome names log log'
asks_all names log log' asked = record { passed = names; coming = []; all = sym (append-nil names); asked = asked }

-- this name has been asked for
pub asks_one : (name : List ℕ) (log log' : AskedNames) → log' ≡ grown log (name ∷ []) → AsksUpTo (name ∷ []) log log'
asks_one name log log' asked = record { earlier = []; name = name; coming = []; all = refl; asked = asked }

-- further names are still to come
pub up_to_more : (names more all : List (List ℕ)) (log log' : AskedNames) →
    all ≡ names ++ more → AsksUpTo names log log' → AsksUpTo all log log'
up_to_more names more all log log' is asks = record {
  earlier = asks.earlier;
  name = asks.name;
  coming = asks.coming ++ more;
  all = is ∙ rw (asks.all, append_assoc) refl;
  asked = asks.asked;
}

pub some_more : (names more all : List (List ℕ)) (log log' : AskedNames) →
    all ≡ names ++ more → AsksSome names log log' → AsksSome all log log'
some_more names more all log log' is asks = record {
  passed = asks.passed;
  coming = asks.coming ++ more;
  all = is ∙ rw (asks.all, append_assoc) refl;
  asked = asks.asked;
}

-- all names before these have been asked for
pub up_to_behind : (names rest : List (List ℕ)) (log between log' : AskedNames) →
    between ≡ grown log names → AsksUpTo rest between log' → AsksUpTo (names ++ rest) log log'
up_to_behind names rest log between log' asked asks = record {
  earlier = names ++ asks.earlier;
  name = asks.name;
  coming = asks.coming;
  all = rw (asks.all, append_assoc) refl;
  asked = rw (asks.asked, asked, grown-append log names (asks.earlier ++ asks.name ∷ []), append_assoc) refl;
}

pub some_behind : (names rest : List (List ℕ)) (log between log' : AskedNames) →
    between ≡ grown log names → AsksSome rest between log' → AsksSome (names ++ rest) log log'
some_behind names rest log between log' asked asks = record {
  passed = names ++ asks.passed;
  coming = asks.coming;
  all = rw (asks.all, append_assoc) refl;
  asked = rw (asks.asked, asked, grown-append log names asks.passed) refl;
}
