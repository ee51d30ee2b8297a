-- Runs that go on from one another.
use Rattle.std.proofs.Common.{◌≡◌, ◌∷◌, ◌++◌, ◌∙◌, ◌+◌, ℕ, List, [], length, map, refl, sym, ap, arith, append_assoc}
use Rattle.std.proofs.Common.{length-append}
use Rattle.std.proofs.lemmas.List.{map-append}
use Rattle.lab_io.specs.Held.{Held}
use Rattle.lab_top.specs.Transcript.{Transcript, Done, Read, Use, after, ended, read_now, read_later}
use Rattle.lab_top.specs.Transcript.{use_later}
use Rattle.script_laws.specs.Beginning.{followed}

-- two runs are one where they are the same in all
pub same_runs : (one two : Transcript) → one.bytes ≡ two.bytes → one.outcome ≡ two.outcome → one.reads ≡ two.reads →
    one.uses ≡ two.uses → one.kept ≡ two.kept → one ≡ two
same_runs one two bytes outcome reads uses kept = λ i. record {
  bytes = bytes i;
  outcome = outcome i;
  reads = reads i;
  uses = uses i;
  kept = kept i;
}

place_sum : (m n k at : ℕ) → k ≡ m + n → m + (n + at) ≡ k + at
place_sum m n k at is = omega arith

reads_twice : (m n k : ℕ) → k ≡ m + n → (reads : List Read) →
    map (read_later m) (map (read_later n) reads) ≡ map (read_later k) reads
reads_twice m n k is [] = refl
reads_twice m n k is (read ∷ reads) = λ i.
    record { name = read.name; before = place_sum m n k read.before is i } ∷ reads_twice m n k is reads i

uses_twice : (m n k : ℕ) → k ≡ m + n → (uses : List Use) →
    map (use_later m) (map (use_later n) uses) ≡ map (use_later k) uses
uses_twice m n k is [] = refl
uses_twice m n k is (made ∷ uses) = λ i.
    record { call = made.call; before = place_sum m n k made.before is i } ∷ uses_twice m n k is uses i

pub after_followed : (names : List (List ℕ)) (written : List ℕ) (ahead next : Transcript) →
    after names written (followed ahead next) ≡ followed (after names written ahead) next
after_followed names written ahead next =
    let m = length written in
    let n = length ahead.bytes in
    let k = length (written ++ ahead.bytes) in
    same_runs (after names written (followed ahead next)) (followed (after names written ahead) next)
    (sym (append_assoc written ahead.bytes next.bytes))
    refl
    (ap (λ reads. map read_now names ++ reads)
    (map-append (read_later m) ahead.reads (map (read_later n) next.reads)
    ∙ ap (λ reads. map (read_later m) ahead.reads ++ reads)
    (reads_twice m n k (length-append written ahead.bytes) next.reads))
    ∙ sym (append_assoc (map read_now names) (map (read_later m) ahead.reads) (map (read_later k) next.reads)))
    (map-append (use_later m) ahead.uses (map (use_later n) next.uses)
    ∙ ap (λ uses. map (use_later m) ahead.uses ++ uses)
    (uses_twice m n k (length-append written ahead.bytes) next.uses))
    refl

zero_sum : (at : ℕ) → 0 + at ≡ at
zero_sum at = omega arith

pub reads_now : (reads : List Read) → map (read_later 0) reads ≡ reads
reads_now [] = refl
reads_now (read ∷ reads) = λ i. record { name = read.name; before = zero_sum read.before i } ∷ reads_now reads i

uses_now : (uses : List Use) → map (use_later 0) uses ≡ uses
uses_now [] = refl
uses_now (made ∷ uses) = λ i. record { call = made.call; before = zero_sum made.before i } ∷ uses_now uses i

-- a run that follows nothing
pub nothing_followed : (kept : Held) (next : Transcript) → next ≡ followed (ended kept Done) next
nothing_followed kept next =
    same_runs next (followed (ended kept Done) next) refl refl (sym (reads_now next.reads)) (sym (uses_now next.uses))
    refl
