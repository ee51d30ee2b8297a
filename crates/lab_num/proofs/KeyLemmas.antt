-- Keys that differ, and members that are one.
use Rattle.std.proofs.Common.{◌≡◌, ◌≢◌, ◌∙◌, ℕ, ap, refl, Bool, true, false, cond, ne_eqb, nat_lt, arith}
use Rattle.std.proofs.Common.{Ordering, Less, Equal, Greater, nat_cmp, is_eq}
use Rattle.std.specs.Ordering.{ordering_then, eq_by_cmp}
use Rattle.std.proofs.lemmas.Bool.Decides.{nat_tests}
use Rattle.lab_num.specs.declared.key.Key.{Key}
use Rattle.lab_num.specs.declared.key.Member.{Member}
use Rattle.lab_num.specs.Key.{key_cmp, same_member}

-- ---- keys that differ in board or in number

is_eq_then : (a b : Ordering) → is_eq a ≡ false → is_eq (ordering_then a b) ≡ false
is_eq_then Less b is = refl
is_eq_then Equal b is = absurd (cc)
is_eq_then Greater b is = refl

is_eq_then_last : (a b : Ordering) → is_eq b ≡ false → is_eq (ordering_then a b) ≡ false
is_eq_then_last Less b is = refl
is_eq_then_last Equal b is = is
is_eq_then_last Greater b is = refl

less_or_greater : (t : Bool) → is_eq (cond t Less Greater) ≡ false
less_or_greater true = refl
less_or_greater false = refl

nat_apart : (a b : ℕ) → a ≢ b → is_eq (nat_cmp a b) ≡ false
nat_apart a b apart = rw (ne_eqb a b apart) (less_or_greater (nat_lt a b))

pub boards_apart : (a b : Key) → a.board.0 ≢ b.board.0 → eq_by_cmp key_cmp a b ≡ false
boards_apart a b apart =
    is_eq_then_last (nat_cmp a.at.0 b.at.0) (ordering_then (nat_cmp a.board.0 b.board.0) (nat_cmp a.number.0
    b.number.0))
    (is_eq_then (nat_cmp a.board.0 b.board.0) (nat_cmp a.number.0 b.number.0) (nat_apart a.board.0 b.board.0 apart))

pub numbers_apart : (a b : Key) → a.number.0 ≢ b.number.0 → eq_by_cmp key_cmp a b ≡ false
numbers_apart a b apart =
    is_eq_then_last (nat_cmp a.at.0 b.at.0) (ordering_then (nat_cmp a.board.0 b.board.0) (nat_cmp a.number.0
    b.number.0))
    (is_eq_then_last (nat_cmp a.board.0 b.board.0) (nat_cmp a.number.0 b.number.0) (nat_apart a.number.0 b.number.0
    apart))

-- ---- members

pub same_itself : (m : Member) → same_member m m ≡ true
same_itself m = grind (arith, nat_tests)

same_numbers : (a m : Member) → same_member a m ≡ true → (a.board.0 ≡ m.board.0) × (a.dev ≡ m.dev)
same_numbers a m is = grind (arith, nat_tests)

pub member_is : (a m : Member) → same_member a m ≡ true → a ≡ m
member_is a m is =
    let same = same_numbers a m is in
    ap (λ (n : ℕ). record { board = record { 0 = n }; dev = a.dev }) same.0
    ∙ ap (λ (n : ℕ). record { board = record { 0 = m.board.0 }; dev = n }) same.1
