-- A generated laboratory has no board yet of the next name, nor its UART in the hub, and each of its boards has a plan.
use Rattle.std.proofs.Common.{◌≡◌, ◌∙◌, ℕ, zero, suc, ◌+◌, ◌<◌, ◌≤◌, ◌==◌, ◌++◌, map, codes, Bool, false}
use Rattle.std.proofs.Common.{None, refl, arith}
use Rattle.std.specs.Prelude.{is_none}
use Rattle.std.specs.Fmt.{decimal}
use Rattle.std.specs.List.{list_any, position, position_from, range_with_len}
use Rattle.std.specs.Str.{bytes_eq}
use Rattle.std.proofs.lemmas.Bool.Decides.{nat_tests}
use Rattle.std.proofs.lemmas.Fmt.{decimal_injective}
use Rattle.std.proofs.lemmas.Iterator.Adapters.{position_from-zero}
use Rattle.std.proofs.lemmas.Slice.Eq.{bytes_eq-Decides}
use Rattle.std.proofs.lemmas.Bool.{false_from_ne_true}
use Rattle.lab_num.specs.Key.{same_member}
use Rattle.lab_num.specs.Route.{is_connected}
use Rattle.lab_state.specs.Board.{Board}
use Rattle.lab_state.specs.Hub.{members_of}
use Rattle.lab_state.specs.Lab.{Seen}
use Rattle.lab_state.specs.Names.{is_taken}
use Rattle.lab_state.specs.One.{first_without}
use Rattle.lab_gen.specs.Generated.{board, generated, uart_of}
use Rattle.lab_gen.specs.Inner.Steps.{IsWith}

-- ---- names

tail_same : (x y : ℕ) → codes "m" ++ decimal x ≡ codes "m" ++ decimal y → decimal x ≡ decimal y
tail_same x y is = cc

other_name : (i n : ℕ) → i < n → n < 16 → bytes_eq (codes "m" ++ decimal i) (codes "m" ++ decimal n) ≡ false
other_name i n less few =
    false_from_ne_true _ (λ same.
    let is : i ≡ n =
    decimal_injective i n (omega (arith, less, few)) (omega (arith, few))
    (tail_same i n ((bytes_eq-Decides (codes "m" ++ decimal i) (codes "m" ++ decimal n)).0 same)) in
    omega (arith, less, is))

no_board_named : (seed start len n at : ℕ) → start + len ≤ n → n < 16 →
    position_from (λ (b : Board). bytes_eq b.name (codes "m" ++ decimal n)) at
    (map (board seed) (range_with_len start len)) ≡ None
no_board_named seed start zero n at within few = refl
no_board_named seed start (suc len) n at within few =
    rw (other_name start n (omega (arith, within)) few)
    (no_board_named seed (start + 1) len n (at + 1) (omega (arith, within)) few)

pub name_free : (seed n : ℕ) (s : Seen) → n < 16 → s ≡ record { lab = generated seed n; spent = false } →
    is_taken s.lab (codes "m" ++ decimal n) ≡ false
name_free seed n s few is =
    let named : Board → Bool = λ b. bytes_eq b.name (codes "m" ++ decimal n) in
    let none : position named (generated seed n).boards ≡ None =
    position_from-zero named (generated seed n).boards ∙ no_board_named seed 0 n n 0 (omega arith) few in
    rw (is, none) refl

-- ---- members

no_member : (start len n : ℕ) → start + len ≤ n →
    list_any (λ other. same_member other (uart_of n)) (map uart_of (range_with_len start len)) ≡ false
no_member start zero n within = refl
no_member start (suc len) n within =
    let other : (start == n) ≡ false = grind (arith, nat_tests, within) in
    rw (other, no_member (start + 1) len n (omega (arith, within))) refl

pub member_free : (seed n : ℕ) (more : Board) (s : Seen) → IsWith seed n more s →
    is_connected (members_of s.lab.hubs) (uart_of n) ≡ false
member_free seed n more s is = rw (is, no_member 0 n n (omega arith)) refl

-- ---- plans

all_planned : (seed start len at : ℕ) →
    position_from (λ (b : Board). is_none b.view) at (map (board seed) (range_with_len start len)) ≡ None
all_planned seed start zero at = refl
all_planned seed start (suc len) at = all_planned seed (start + 1) len (at + 1)

pub each_has_plan : (seed n : ℕ) (s : Seen) → s ≡ record { lab = generated seed n; spent = false } →
    first_without s.lab.boards ≡ None
each_has_plan seed n s is =
    rw is (position_from-zero (λ (b : Board). is_none b.view) (generated seed n).boards ∙ all_planned seed 0 n 0)
