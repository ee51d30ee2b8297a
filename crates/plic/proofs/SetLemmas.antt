-- Sets as numbers of 128 bits: what is in a set that a test gives, and in one that bits give.
use Rattle.std.proofs.Common.{◌≡◌, ℕ, zero, suc, ◌+◌, ◌-◌, ◌*◌, ◌/◌, ◌%◌, ◌^◌, ◌<◌, ◌≤◌, min, max, ◌==◌, ◌&&◌, ◌||◌}
use Rattle.std.proofs.Common.{not, nat_le, Bool, true, false, if◌then◌else◌, bit_and, bit_or, inl, inr, refl, sym, ap}
use Rattle.std.proofs.Common.{◌∙◌, arith, pow-suc, pow_pos, add-one, add-zero, lt_of_le_of_lt}
use Rattle.std.specs.Int.{bit_at, bit_not, w128}
use Rattle.std.proofs.lemmas.Bool.{cases_lt, cases_eq, cases_Bool, eq-eqb, ne_eqb, le-leb, lt-leb, both_ways, and_parts}
use Rattle.std.proofs.lemmas.Bool.{and_right, or_cases}
use Rattle.std.proofs.Math.Nat.{pow-le-pow_right}
use Rattle.std.proofs.lemmas.Nat.{or_lt, and_le_l, one_shl, shl_whole, mod_below}
use Rattle.std.proofs.lemmas.Nat.Bits.{bit_at-zero, bit_at-lt, bit_at_above, bit_at_and, bit_at_or, bit_at_not}
use Rattle.std.proofs.lemmas.Nat.Bits.{bit_at_ones, bit_at_cat_low, bit_at_cat_high, bit_at_clear_same}
use Rattle.std.proofs.lemmas.Nat.Bits.{bit_at_clear_other, bit_at_mask_inside, bit_at_mask_below, bit_at_mask_above}
use Rattle.std.proofs.lemmas.Nat.Bits.{same_from_bits_below}
use Rattle.plic.specs.Sources.{has, set_below, set_of, is_source, all_sources, union, without, with_word, AreSources}
use Rattle.plic.specs.Gateway.{is_raised, raised}

-- ---- bits as truths

bit_of-has : (x : ℕ) → x < 2 → x ≡ (if x == 1 then 1 else 0)
bit_of-has zero h = refl
bit_of-has (suc zero) h = refl
bit_of-has (suc (suc n)) h = absurd (omega arith)

is_one-bit : (t : Bool) → ((if t then 1 else 0) == 1) ≡ t
is_one-bit true = refl
is_one-bit false = refl

is_one-min : (x y : ℕ) → x < 2 → y < 2 → (min x y == 1) ≡ ((x == 1) && (y == 1))
is_one-min zero zero h k = refl
is_one-min zero (suc zero) h k = refl
is_one-min zero (suc (suc n)) h k = absurd (omega arith)
is_one-min (suc zero) zero h k = refl
is_one-min (suc zero) (suc zero) h k = refl
is_one-min (suc zero) (suc (suc n)) h k = absurd (omega arith)
is_one-min (suc (suc n)) y h k = absurd (omega arith)

is_one-max : (x y : ℕ) → x < 2 → y < 2 → (max x y == 1) ≡ ((x == 1) || (y == 1))
is_one-max zero zero h k = refl
is_one-max zero (suc zero) h k = refl
is_one-max (suc zero) zero h k = refl
is_one-max (suc zero) (suc zero) h k = refl
is_one-max zero (suc (suc n)) h k = absurd (omega arith)
is_one-max (suc zero) (suc (suc n)) h k = absurd (omega arith)
is_one-max (suc (suc n)) y h k = absurd (omega arith)

is_one-flip : (x : ℕ) → x < 2 → (1 - x == 1) ≡ not (x == 1)
is_one-flip zero h = refl
is_one-flip (suc zero) h = refl
is_one-flip (suc (suc n)) h = absurd (omega arith)

-- ---- what is in a set made by bits

pub has-and : (a b s : ℕ) → has (bit_and a b) s ≡ (has a s && has b s)
has-and a b s = rw (bit_at_and a b s) (is_one-min (bit_at a s) (bit_at b s) (bit_at-lt a s) (bit_at-lt b s))

pub has-or : (a b s : ℕ) → has (bit_or a b) s ≡ (has a s || has b s)
has-or a b s = rw (bit_at_or a b s) (is_one-max (bit_at a s) (bit_at b s) (bit_at-lt a s) (bit_at-lt b s))

pub has-not : (a s : ℕ) → a < 2 ^ 128 → s < 128 → has (bit_not w128 a) s ≡ not (has a s)
has-not a s h k = rw (bit_at_not w128 a s h k) (is_one-flip (bit_at a s) (bit_at-lt a s))

pub has-zero : (s : ℕ) → has 0 s ≡ false
has-zero s = rw (bit_at-zero s) refl

pub has-above : (a s : ℕ) → a < 2 ^ 128 → 128 ≤ s → has a s ≡ false
has-above a s h k = rw (bit_at_above a 128 s h k) refl

-- two sets with the same sources are one
pub same_sets : (a b : ℕ) → a < 2 ^ 128 → b < 2 ^ 128 → ((s : ℕ) → s < 128 → has a s ≡ has b s) → a ≡ b
same_sets a b h k same = same_from_bits_below 128 a b h k (λ s below.
    bit_of-has (bit_at a s) (bit_at-lt a s)
    ∙ ap (λ (t : Bool). if t then 1 else 0) (same s below)
    ∙ sym (bit_of-has (bit_at b s) (bit_at-lt b s)))

-- ---- what is in a set that a test gives

below_more : (b n : ℕ) (t : Bool) → b < 2 ^ n → b + (if t then 2 ^ n else 0) < 2 ^ suc n
below_more b n true h = omega (arith, pow-suc 2 n)
below_more b n false h = omega (arith, pow-suc 2 n)

pub set_below-lt : (test : ℕ → Bool) (n : ℕ) → set_below test n < 2 ^ n
unfolding set_below
set_below-lt test zero = omega arith
set_below-lt test (suc n) = below_more (set_below test n) n (test n) (set_below-lt test n)

bit_at-more_low : (b n : ℕ) (t : Bool) (i : ℕ) → i < n →
    bit_at (b + (if t then 2 ^ n else 0)) i ≡ bit_at b i
bit_at-more_low b n true i h =
    let turned : b + 2 ^ n ≡ 1 * 2 ^ n + b = omega arith in
    rw turned (bit_at_cat_low 1 n b i h)
bit_at-more_low b n false i h =
    let same : b + 0 ≡ b = omega arith in
    rw same refl

bit_at-more_high : (b n : ℕ) (t : Bool) → b < 2 ^ n →
    bit_at (b + (if t then 2 ^ n else 0)) n ≡ (if t then 1 else 0)
bit_at-more_high b n true h =
    let turned : b + 2 ^ n ≡ 1 * 2 ^ n + b = omega arith in
    let first : n - n ≡ 0 = omega arith in
    rw turned (rw (bit_at_cat_high 1 n b n h (omega arith), first) refl)
bit_at-more_high b n false h =
    let same : b + 0 ≡ b = omega arith in
    rw same (bit_at_above b n n h (omega arith))

bit_at-set_below : (test : ℕ → Bool) (n i : ℕ) → i < n → bit_at (set_below test n) i ≡ (if test i then 1 else 0)
unfolding set_below
bit_at-set_below test zero i h = absurd (omega arith)
bit_at-set_below test (suc n) i h = elim (cases_lt i n) [
  | inl below ↦
      bit_at-more_low (set_below test n) n (test n) i below ∙ bit_at-set_below test n i below
  | inr above ↦
      let same : i ≡ n = omega arith in
      rw same (bit_at-more_high (set_below test n) n (test n) (set_below-lt test n))
]

pub set_of-lt : (test : ℕ → Bool) → set_of test < 2 ^ 128
set_of-lt test = set_below-lt test 128

pub has-set_of : (test : ℕ → Bool) (s : ℕ) → s < 128 → has (set_of test) s ≡ test s
has-set_of test s h = rw (bit_at-set_below test 128 s h) (is_one-bit (test s))

-- a set is what a test gives, if the same sources are in it
pub set_of-same : (a : ℕ) (test : ℕ → Bool) → a < 2 ^ 128 → ((s : ℕ) → s < 128 → has a s ≡ test s) →
    a ≡ set_of test
set_of-same a test h same =
    same_sets a (set_of test) h (set_of-lt test) (λ s below. same s below ∙ sym (has-set_of test s below))

-- ---- the sets of the definitions, as the code makes them

pub has-all_sources : (n s : ℕ) → s < 128 → has (all_sources n) s ≡ is_source n s
unfolding all_sources
has-all_sources n s h = has-set_of (is_source n) s h

pub all_sources-lt : (n : ℕ) → all_sources n < 2 ^ 128
unfolding all_sources
all_sources-lt n = set_of-lt (is_source n)

has-mask : (n s : ℕ) → has (2 ^ (n + 1) - 2 ^ 1) s ≡ is_source n s
has-mask n s = elim (cases_lt s 1) [
  | inl below ↦ rw (bit_at_mask_below 1 (n + 1) s below, lt-leb 1 s below) refl
  | inr above ↦ elim (cases_lt s (n + 1)) [
    | inl inside ↦
        let low : nat_le 1 s ≡ true = le-leb 1 s above in
        let high : nat_le s n ≡ true = le-leb s n (omega arith) in
        rw (bit_at_mask_inside 1 (n + 1) s above inside, low, high) refl
    | inr past ↦
        let low : nat_le 1 s ≡ true = le-leb 1 s above in
        let high : nat_le s n ≡ false = lt-leb s n (omega arith) in
        rw (bit_at_mask_above 1 (n + 1) s past, low, high) refl
  ]
]

pub all_sources-mask : (n : ℕ) → n < 128 → (1 * 2 ^ n % 2 ^ 128 - 1) * 2 ≡ all_sources n
unfolding all_sources
all_sources-mask n h =
    let more : 2 ^ (n + 1) ≡ 2 ^ n * 2 = rw add-one (pow-suc 2 n) in
    let mask : (2 ^ n - 1) * 2 ≡ 2 ^ (n + 1) - 2 ^ 1 = omega arith in
    let within : 2 ^ n ≤ 2 ^ 127 = pow-le-pow_right {n = 2} (omega arith) {i = n} {j = 127} (omega arith) in
    rw (one_shl n 128 h, mask)
    (set_of-same (2 ^ (n + 1) - 2 ^ 1) (is_source n) (omega arith) (λ s below. has-mask n s))

pub union-or : (a b : ℕ) → a < 2 ^ 128 → b < 2 ^ 128 → bit_or a b ≡ union a b
unfolding union
union-or a b h k = set_of-same (bit_or a b) _ (or_lt 128 a b h k) (λ s below. has-or a b s)

pub has-union : (a b s : ℕ) → s < 128 → has (union a b) s ≡ (has a s || has b s)
unfolding union
has-union a b s h = has-set_of _ s h

pub union-lt : (a b : ℕ) → union a b < 2 ^ 128
unfolding union
union-lt a b = set_of-lt _

-- nothing is added
or_none : (t u : Bool) → u ≡ false → (t || u) ≡ t
or_none true u h = refl
or_none false u h = h

pub union-stays : (a b : ℕ) → a < 2 ^ 128 → ((s : ℕ) → s < 128 → has b s ≡ false) → union a b ≡ a
union-stays a b h none =
    same_sets (union a b) a (union-lt a b) h (λ s below.
    has-union a b s below ∙ or_none (has a s) (has b s) (none s below))

and_true : (t : Bool) → (t && true) ≡ t
and_true true = refl
and_true false = refl

pub without-and : (set source : ℕ) → set < 2 ^ 128 → source < 128 →
    bit_and set (bit_not w128 (1 * 2 ^ source % 2 ^ 128)) ≡ without set source
unfolding without
without-and set source h k =
    set_of-same (bit_and set (bit_not w128 (1 * 2 ^ source % 2 ^ 128))) _
    (lt_of_le_of_lt (and_le_l set (bit_not w128 (1 * 2 ^ source % 2 ^ 128))) h) (λ s below.
    elim (cases_eq s source) [
      | inl same ↦
          rw same (rw (bit_at_clear_same w128 set source k, eq-eqb source source refl)
          (sym (and_right (has set source) false refl)))
      | inr other ↦
          rw (bit_at_clear_other w128 set source k s below other, ne_eqb s source other)
          (sym (and_true (has set s)))
    ])

pub has-without : (set source s : ℕ) → s < 128 → has (without set source) s ≡ (has set s && not (s == source))
unfolding without
has-without set source s h = has-set_of _ s h

pub raised-and : (n shut lines : ℕ) → lines < 2 ^ 128 → shut < 2 ^ 128 →
    bit_and (bit_and (all_sources n) lines) (bit_not w128 shut) ≡ raised n shut lines
unfolding raised
raised-and n shut lines h k =
    set_of-same (bit_and (bit_and (all_sources n) lines) (bit_not w128 shut)) (is_raised n shut lines)
    (lt_of_le_of_lt (and_le_l (bit_and (all_sources n) lines) (bit_not w128 shut))
    (lt_of_le_of_lt (and_le_l (all_sources n) lines) (all_sources-lt n)))
    (λ s below.
    rw (
      has-and (bit_and (all_sources n) lines) (bit_not w128 shut) s,
      has-and (all_sources n) lines s,
      has-all_sources n s below,
      has-not shut s k below,
    ) refl)

pub has-raised : (n shut lines s : ℕ) → s < 128 → has (raised n shut lines) s ≡ is_raised n shut lines s
unfolding raised
has-raised n shut lines s h = has-set_of (is_raised n shut lines) s h

-- ---- a word of a set

-- a word at its place
has-word_at : (word k s : ℕ) → word < 2 ^ 32 → k < 4 →
    has (word * 2 ^ (32 * k) % 2 ^ 128) s ≡ ((s / 32 == k) && has word (s % 32))
has-word_at word k s h within =
    let whole : word * 2 ^ (32 * k) % 2 ^ 128 ≡ word * 2 ^ (32 * k) + 0 =
    shl_whole word 32 (32 * k) 128 h (omega arith) ∙ sym (add-zero (word * 2 ^ (32 * k))) in
    rw whole (elim (cases_lt s (32 * k)) [
      | inl below ↦
          let other : (s / 32 == k) ≡ false = ne_eqb (s / 32) k (λ e. omega arith) in
          rw (bit_at_cat_low word (32 * k) 0 s below, other, bit_at-zero s) refl
      | inr from ↦ rw (bit_at_cat_high word (32 * k) 0 s (pow_pos (32 * k)) from) (elim (cases_lt s (32 * k + 32)) [
        | inl inside ↦
            let here : (s / 32 == k) ≡ true = eq-eqb (s / 32) k (omega arith) in
            let place : s % 32 ≡ s - 32 * k = omega arith in
            rw (here, place) refl
        | inr past ↦
            let other : (s / 32 == k) ≡ false = ne_eqb (s / 32) k (λ e. omega arith) in
            rw (other, bit_at_above word 32 (s - 32 * k) h (omega arith)) refl
      ])
    ])

has-ones : (i : ℕ) → i < 32 → has 0xFFFFFFFF i ≡ true
has-ones i h = rw (bit_at_ones 32 i h) refl

-- one word of a set replaced, source by source
replaced : (set at word : Bool) → ((set && not (at && true)) || (at && word)) ≡ (if at then word else set)
replaced true true word = refl
replaced false true word = refl
replaced true false word = refl
replaced false false word = refl

pub with_word-or : (n set k word : ℕ) → set < 2 ^ 128 → word < 2 ^ 32 → k < 4 →
    bit_and (all_sources n)
    (bit_or (bit_and set (bit_not w128 (0xFFFFFFFF * 2 ^ (32 * k) % 2 ^ 128))) (word * 2 ^ (32 * k) % 2 ^ 128))
    ≡ with_word n set k word
unfolding with_word
with_word-or n set k word h fits within =
    let mask : ℕ = 0xFFFFFFFF * 2 ^ (32 * k) % 2 ^ 128 in
    let value : ℕ = word * 2 ^ (32 * k) % 2 ^ 128 in
    set_of-same (bit_and (all_sources n) (bit_or (bit_and set (bit_not w128 mask)) value)) _
    (lt_of_le_of_lt (and_le_l (all_sources n) (bit_or (bit_and set (bit_not w128 mask)) value)) (all_sources-lt n))
    (λ s below.
    rw (
      has-and (all_sources n) (bit_or (bit_and set (bit_not w128 mask)) value) s,
      has-all_sources n s below,
      has-or (bit_and set (bit_not w128 mask)) value s,
      has-and set (bit_not w128 mask) s,
      has-not mask s (mod_below (0xFFFFFFFF * 2 ^ (32 * k)) (2 ^ 128) (pow_pos 128)) below,
      has-word_at 0xFFFFFFFF k s (omega arith) within,
      has-word_at word k s fits within,
      has-ones (s % 32) (omega arith),
    )
    (ap (λ (t : Bool). is_source n s && t) (replaced (has set s) (s / 32 == k) (has word (s % 32)))))

-- ---- sets of sources that are there

pub AreSources-set_of : (n : ℕ) (test : ℕ → Bool) → ((s : ℕ) → test s ≡ true → is_source n s ≡ true) →
    AreSources n (set_of test)
AreSources-set_of n test within = record {
  each = λ s in_it. elim (cases_lt s 128) [
    | inl below ↦ within s (sym (has-set_of test s below) ∙ in_it)
    | inr above ↦ absurd (both_ways _ (has-above (set_of test) s (set_of-lt test) above) in_it)
  ];
}

pub AreSources-zero : (n : ℕ) → AreSources n 0
AreSources-zero n = record { each = λ s in_it. absurd (both_ways _ (has-zero s) in_it) }

pub AreSources-union : (n a b : ℕ) → AreSources n a → AreSources n b → AreSources n (union a b)
unfolding union
AreSources-union n a b left right = AreSources-set_of n _ (λ s t. elim (or_cases _ _ t) [
  | inl in_a ↦ left.each s in_a
  | inr in_b ↦ right.each s in_b
])

pub AreSources-without : (n set source : ℕ) → AreSources n set → AreSources n (without set source)
unfolding without
AreSources-without n set source all = AreSources-set_of n _ (λ s t. all.each s (and_parts _ _ t).0)

pub AreSources-with_word : (n set k word : ℕ) → AreSources n (with_word n set k word)
unfolding with_word
AreSources-with_word n set k word = AreSources-set_of n _ (λ s t. (and_parts _ _ t).0)

pub AreSources-raised : (n shut lines : ℕ) → AreSources n (raised n shut lines)
unfolding raised
AreSources-raised n shut lines = AreSources-set_of n _ (λ s t. (and_parts _ _ (and_parts _ _ t).0).0)

-- the test of it
pub AreSources-from_and : (n set : ℕ) → bit_and set (all_sources n) ≡ set → AreSources n set
AreSources-from_and n set same = record {
  each = λ s in_it.
      let both : (has set s && has (all_sources n) s) ≡ true =
      sym (has-and set (all_sources n) s) ∙ ap (λ (x : ℕ). has x s) same ∙ in_it in
      elim (cases_lt s 128) [
        | inl below ↦ sym (has-all_sources n s below) ∙ (and_parts _ _ both).1
        | inr above ↦
            absurd (both_ways _ (has-above (all_sources n) s (all_sources-lt n) above) (and_parts _ _ both).1)
      ];
}

pub and-AreSources : (n set : ℕ) → set < 2 ^ 128 → AreSources n set → bit_and set (all_sources n) ≡ set
and-AreSources n set h all =
    same_sets (bit_and set (all_sources n)) set (lt_of_le_of_lt (and_le_l set (all_sources n)) h) h (λ s below.
    has-and set (all_sources n) s ∙ elim (cases_Bool (has set s)) [
      | inl in_it ↦ rw (in_it, has-all_sources n s below, all.each s in_it) refl
      | inr out ↦ rw out refl
    ])
