-- What the list of the reservations that there are becomes, where it is the first part of a longer one.
use Rattle.std.proofs.Common.{◌≡◌, ℕ, ◌<◌, ◌≤◌, ap, ◌∙◌, sym, List, length, map, take, set, replicate, get_or, arith}
use Rattle.std.specs.Prelude.{Option, None}
use Rattle.std.proofs.lemmas.List.{length-take-le, take-map, take-replicate, get_or-take}
use Rattle.std.proofs.Math.Seq.{take-set-lt}
use Rattle.rv_atomic.specs.Watch.{after_store, kept}

pub length-first :
    (n : ℕ) (words old : List (Option ℕ)) → n ≤ 4 → length words ≡ 4 → take n words ≡ old → n ≡ length old
length-first n words old most all is = sym (length-take-le n words (omega arith)) ∙ ap length is

pub none-first :
    (n : ℕ) (words old : List (Option ℕ)) → n ≤ 4 → length words ≡ 4 → take n words ≡ old →
    take {A = Option ℕ} n (replicate 4 None) ≡ replicate (length old) None
none-first n words old most all is =
    take-replicate n 4 None most ∙ ap (λ k. replicate k None) (length-first n words old most all is)

pub set-first :
    (n : ℕ) (words old : List (Option ℕ)) (i : ℕ) (word : Option ℕ) →
    n ≤ 4 → length words ≡ 4 → take n words ≡ old → i < length old → take n (set words i word) ≡ set old i word
set-first n words old i word most all is there =
    let below : i < n = omega (arith, length-first n words old most all is) in
    take-set-lt n words i word below ∙ ap (λ l. set l i word) is

pub store-first :
    (n : ℕ) (words kept_words old : List (Option ℕ)) (i at width : ℕ) →
    n ≤ 4 → length words ≡ 4 → take n words ≡ old → i < length old → kept_words ≡ map (kept at width) words →
    take n (set kept_words i (get_or words i None)) ≡ after_store i at width old
store-first n words kept_words old i at width most all is there each =
    let below : i < n = omega (arith, length-first n words old most all is) in
    rw each
    (take-set-lt n (map (kept at width) words) i (get_or words i None) below ∙
    (ap (λ l. set l i (get_or words i None)) (take-map (kept at width) n words) ∙
    (ap (λ v. set (map (kept at width) (take n words)) i v) (sym (get_or-take n words i None below)) ∙
    ap (λ l. set (map (kept at width) l) i (get_or l i None)) is)))
