-- Sets of interrupt sources. A set is a number of 128 bits, whose bit s says whether source s is in it.
use Rattle.std.specs.Prelude.{◌≡◌, ℕ, zero, suc, ◌+◌, ◌*◌, ◌/◌, ◌%◌, ◌^◌, ◌==◌, ◌&&◌, ◌||◌, not, nat_le, Bool, true}
use Rattle.std.specs.Prelude.{if◌then◌else◌, List}
use Rattle.std.specs.Int.{bit_at}
use Rattle.std.specs.List.{range_with_len}

-- whether a source is in a set
abbrev pub has : ℕ → ℕ → Bool
has set source = bit_at set source == 1

-- the set of those below n that pass a test
unfoldable pub set_below : (ℕ → Bool) → ℕ → ℕ
set_below test zero = 0
set_below test (suc n) = set_below test n + (if test n then 2 ^ n else 0)

-- the set of all that pass a test
abbrev pub set_of : (ℕ → Bool) → ℕ
set_of test = set_below test 128

-- the sources of a controller that has n of them: 1 to n, since 0 stands for no source
abbrev pub is_source : ℕ → ℕ → Bool
is_source n source = nat_le 1 source && nat_le source n

abbrev pub sources : ℕ → List ℕ
sources n = range_with_len 1 n

-- the set of them all
unfoldable pub all_sources : ℕ → ℕ
all_sources n = set_of (is_source n)

-- what is in the one set or in the other
unfoldable pub union : ℕ → ℕ → ℕ
union a b = set_of (λ s. has a s || has b s)

-- a set without a source
unfoldable pub without : ℕ → ℕ → ℕ
without set source = set_of (λ s. has set s && not (s == source))

-- the sources from 32 * k to 32 * k + 31, as a word
abbrev pub word_of : ℕ → ℕ → ℕ
word_of set k = set / 2 ^ (32 * k) % 2 ^ 32

-- a set after a store of those sources as a word, in which bits of absent sources stay 0
unfoldable pub with_word : ℕ → ℕ → ℕ → ℕ → ℕ
with_word n set k word =
    set_of (λ s. is_source n s && (if s / 32 == k then has word (s % 32) else has set s))

-- a set of sources that are there
pub record AreSources (n set : ℕ) : Type 0 where
  pub each : (s : ℕ) → has set s ≡ true → is_source n s ≡ true
