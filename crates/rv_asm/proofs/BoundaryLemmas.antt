-- A text may be cut before and after a blank.
use Rattle.std.proofs.Common.{◌≡◌, ℕ, ◌+◌, ◌-◌, ◌<◌, ◌≤◌, true, List, length, get_or, subst, inl, inr, arith}
use Rattle.std.specs.List.{prefix_len, position_or_len}
use Rattle.std.specs.Str.{IsUtf8, IsCharBoundary}
use Rattle.std.proofs.lemmas.Str.{IsCharBoundary-before_ascii, IsCharBoundary-after_ascii, IsCharBoundary-end}
use Rattle.std.proofs.lemmas.List.Sums.{prefix_len-le-length, prefix_len_passes, passes_at_first}
use Rattle.std.proofs.lemmas.Bool.{cases_lt}
use Rattle.std.proofs.lemmas.Bool.Decides.{nat_tests}
use Rattle.rv_asm.specs.Texts.{is_blank}

blank_ascii : (b : ℕ) → is_blank b ≡ true → b < 128
blank_ascii b blank = grind (arith, nat_tests)

-- after the blanks at the front
pub front_boundary :
    (bs : List ℕ) → IsUtf8 bs → 0 < prefix_len is_blank bs → IsCharBoundary bs (prefix_len is_blank bs)
front_boundary bs text some =
    let n = prefix_len is_blank bs in
    let inside : n ≤ length bs = prefix_len-le-length is_blank bs in
    let before : n - 1 < n = omega arith in
    let last : n - 1 < length bs = omega arith in
    let there : n - 1 + 1 ≡ n = omega arith in
    subst (IsCharBoundary bs) there
    (IsCharBoundary-after_ascii bs (n - 1) text last (blank_ascii _ (prefix_len_passes is_blank bs (n - 1) 0 before)))

-- before a blank, or at the end
pub blank_boundary :
    (bs : List ℕ) (n : ℕ) → n ≤ length bs → (n < length bs → is_blank (get_or bs n 0) ≡ true) →
    IsCharBoundary bs n
blank_boundary bs n within blank =
    elim (cases_lt n (length bs)) [
      | inl below ↦ IsCharBoundary-before_ascii bs n below (blank_ascii _ (blank below))
      | inr above ↦
          let whole : length bs ≡ n = omega arith in
          subst (IsCharBoundary bs) whole (IsCharBoundary-end bs)
    ]

-- after the first word
pub word_boundary : (bs : List ℕ) → IsCharBoundary bs (position_or_len is_blank bs)
word_boundary bs =
    blank_boundary bs (position_or_len is_blank bs) (prefix_len-le-length _ bs)
    (λ below. passes_at_first is_blank bs 0 below)
