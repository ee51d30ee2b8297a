-- The keys of what the boards of a round have made differ.
use Rattle.std.proofs.Common.{◌≡◌, sym, ap, ◌∙◌, Bool, false, ◌&&◌, ◌==◌, ℕ, ◌+◌, ◌≤◌, List, [], ◌∷◌, ◌++◌}
use Rattle.std.proofs.Common.{arith}
use Rattle.std.proofs.lemmas.Bool.Decides.{nat_tests}
use Rattle.std.specs.Cmp.{unsigned_ties, tied_then}
use Rattle.std.specs.List.{AllByRecursion, IsDistinct}
use Rattle.std.specs.Ordering.{nat_cmp, is_eq, eq_by_cmp}
use Rattle.lab_num.specs.declared.key.Key.{Key}
use Rattle.lab_num.specs.Key.{key_cmp}
use Rattle.lab_num.specs.Numbered.{AreNumbered}
use Rattle.lab_num.proofs.ListLemmas.{each-weaker}

-- a key of this board with at least this number, or of a later board
abbrev From : ℕ → ℕ → Key → Type 0
From b first key = (b ≤ key.board.0) × (key.board.0 ≡ b → first ≤ key.number.0)

-- two keys of which one stands after the other are not one
differ : (t b n : Bool) → (b && n) ≡ false → (t && (b && n)) ≡ false
differ t b n is = grind (arith, nat_tests)

apart : (a b : Key) → From a.board.0 (a.number.0 + 1) b → eq_by_cmp key_cmp a b ≡ false
apart a b from =
    sym (tied_then (nat_cmp a.at.0 b.at.0) _) ∙ ap (λ rest. is_eq (nat_cmp a.at.0 b.at.0) && rest)
    (sym (tied_then (nat_cmp a.board.0 b.board.0) _))
    ∙ differ (is_eq (nat_cmp a.at.0 b.at.0)) (is_eq (nat_cmp a.board.0 b.board.0))
    (is_eq (nat_cmp a.number.0 b.number.0))
    (rw (← unsigned_ties, ← unsigned_ties) unequal)
  where
    unequal : (a.board.0 == b.board.0 && a.number.0 == b.number.0) ≡ false
    unequal = grind (arith, nat_tests)

-- keys from this one on, of which no two are one
pub record Ascend (b first : ℕ) (keys : List Key) : Type 0 where
  pub from : AllByRecursion (From b first) keys
  pub differ : IsDistinct (eq_by_cmp key_cmp) keys

pub none_ascend : (b : ℕ) → Ascend b 0 []
unfolding IsDistinct
none_ascend b = record { from = tt; differ = tt }

later :
    (b first c other : ℕ) (keys : List Key) → (c ≤ b) × (c ≡ b → other ≤ first) → Ascend b first keys →
    Ascend c other keys
later b first c other keys after ascend = record {
  from =
      each-weaker (From b first) (From c other)
      (λ k from. (omega (arith, after.0, from.0), λ same. omega (arith, after.0, after.1, from.0, from.1, same)))
      keys ascend.from;
  differ = ascend.differ;
}

-- the keys of one board, numbered one after another, and then those of later boards
board_ascends :
    (b first : ℕ) (keys rest : List Key) → AreNumbered b first keys → Ascend (b + 1) 0 rest →
    Ascend b first (keys ++ rest)
unfolding IsDistinct
board_ascends b first [] rest is ascend = later (b + 1) 0 b first rest (omega arith, λ same. omega arith) ascend
board_ascends b first (key ∷ keys) rest is ascend =
    let others = board_ascends b (first + 1) keys rest is.2 ascend in
    record {
      from = (
        (omega (arith, is.0), λ same. omega (arith, is.1)),
        (later b (first + 1) b first (keys ++ rest) (omega arith, λ same. omega arith) others).from,
      );
      differ = (
        each-weaker (From b (first + 1)) (λ k. eq_by_cmp key_cmp key k ≡ false)
            (λ k from. apart key k (omega (arith, is.0, from.0), λ same. omega (arith, is.0, is.1, from.1, same)))
            (keys ++ rest) others.from,
        others.differ,
      );
    }

-- the first number of a board does not matter
pub after_board :
    (b first : ℕ) (keys rest : List Key) → AreNumbered b first keys → Ascend (b + 1) 0 rest → Ascend b 0 (keys ++ rest)
after_board b first keys rest are others = later b first b 0 (keys ++ rest) (omega arith, λ same. omega arith)
    (board_ascends b first keys rest are others)
