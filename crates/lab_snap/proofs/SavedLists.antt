-- Writing a list of values that are saved as others, one after the other, as a loop does.
use Rattle.std.proofs.Common.{◌≡◌, ℕ, ◌+◌, ◌≤◌, ◌<◌, ◌⊎◌, inl, inr, List, [], ◌∷◌, ◌++◌, length, map, take}
use Rattle.std.proofs.Common.{get_or, Some, None, IfSome, sym, append_assoc, arith}
use Rattle.std.specs.Prelude.{slice_get}
use Rattle.std.specs.List.{AllByRecursion, flat_map}
use Rattle.std.proofs.lemmas.Grind.{flat_map-append}
use Rattle.std.proofs.lemmas.List.{append-nil, map-append, take_all, take_more}
use Rattle.std.proofs.lemmas.Option.{get_or_from_slice_get, slice_get_cases, slice_get_within}
use Rattle.lab_encoding.specs.Form.{Form}
use Rattle.lab_encoding.specs.Reads.{Appends}

-- what the first n items are saved as stands at the end, and fits
pub record AreWritten {A B : Type 0} (f : Form A) (saved : B → A) (items : List B) (n : ℕ)
    (old new : List ℕ) : Type 0 where
  pub spelled : Appends old new (flat_map f.spell (map saved (take n items)))
  pub fits : AllByRecursion f.Fits (map saved (take n items))

pub none_written : {A B : Type 0} (f : Form A) (saved : B → A) (items : List B) (old : List ℕ) →
    AreWritten f saved items 0 old old
none_written f saved items old = record { spelled = record { parts = sym (append-nil old) }; fits = tt }

fit_more : {A : Type 0} (f : Form A) (xs : List A) (x : A) → AllByRecursion f.Fits xs → f.Fits x →
    AllByRecursion f.Fits (xs ++ x ∷ [])
fit_more f [] x fits last = (last, tt)
fit_more f (y ∷ xs) x fits last = (fits.0, fit_more f xs x fits.1 last)

saved_more : {A B : Type 0} (saved : B → A) (items : List B) (n : ℕ) (item : B) → slice_get items n ≡ Some item →
    map saved (take (n + 1) items) ≡ map saved (take n items) ++ saved item ∷ []
saved_more saved items n item there =
    rw (
      take_more items n item (slice_get_within items n item there),
      get_or_from_slice_get items n item item there,
    )
    (map-append saved (take n items) (item ∷ []))

one_item_written : {A B : Type 0} (f : Form A) (saved : B → A) (items : List B) (n : ℕ) (old mid new : List ℕ)
    (item : B) → slice_get items n ≡ Some item → AreWritten f saved items n old mid →
    Appends mid new (f.spell (saved item)) → f.Fits (saved item) → AreWritten f saved items (n + 1) old new
one_item_written f saved items n old mid new item there so_far one fits =
    let front = map saved (take n items) in
    let last : flat_map f.spell (saved item ∷ []) ≡ f.spell (saved item) = append-nil (f.spell (saved item)) in
    record {
      spelled = record {
        parts = rw (
          saved_more saved items n item there,
          flat_map-append f.spell front (saved item ∷ []),
          last,
          one.parts,
          so_far.spelled.parts,
        )
            (append_assoc old (flat_map f.spell front) (f.spell (saved item)));
      };
      fits = rw (saved_more saved items n item there) (fit_more f front (saved item) so_far.fits fits);
    }

pub one_more_written : {A B : Type 0} (f : Form A) (saved : B → A) (items : List B) (n : ℕ) (old mid new : List ℕ) →
    n < length items → AreWritten f saved items n old mid →
    IfSome (slice_get items n) (λ item. Appends mid new (f.spell (saved item))) →
    IfSome (slice_get items n) (λ item. f.Fits (saved item)) → AreWritten f saved items (n + 1) old new
one_more_written {A} {B} f saved items n old mid new within so_far one fits = by_place (slice_get_cases items n).1
  where
    by_place : ((x : B) × (n < length items) × (slice_get items n ≡ Some x) × (get_or items n x ≡ x))
        ⊎ ((length items ≤ n) × (slice_get items n ≡ None)) → AreWritten f saved items (n + 1) old new
    by_place (inl p) =
        one_item_written f saved items n old mid new p.0 p.2 so_far (rw p.2 at one) (rw p.2 at fits)
    by_place (inr p) = absurd (omega (arith, p.0, within))

-- all of them
pub all_written : {A B : Type 0} (f : Form A) (saved : B → A) (items : List B) (n : ℕ) (old new : List ℕ) →
    length items ≤ n → AreWritten f saved items n old new →
    Appends old new (flat_map f.spell (map saved items)) × AllByRecursion f.Fits (map saved items)
all_written f saved items n old new past written =
    let all : take n items ≡ items = take_all n items past in
    (rw all at written.spelled, rw all at written.fits)
