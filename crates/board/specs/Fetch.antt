-- What a slot fetches at the pc: a word, and on a processor with compressed instructions one or two half-words
-- (RISC-V Unprivileged ISA 20191213, sections 1.5 and 16.1), and what it does by that.
use Rattle.std.specs.Prelude.{ℕ, ◌%◌, ◌==◌, Bool, if◌then◌else◌, Option, None, Some}
use Rattle.std.specs.Option.{option_and_then, option_map_or}
use Rattle.rvc_decode.specs.Means.{expansion}
use Rattle.rv_hart.specs.declared.csr.Lines.{Lines}
use Rattle.rv_hart.specs.Core.{Core}
use Rattle.rv_exec.specs.declared.fetched.Fetched.{Fetched}
use Rattle.rv_exec.specs.declared.fetched.Fetched.TheVariants.{Fault, Bad, Good}
use Rattle.rv_exec.specs.Effect.{found_at}
use Rattle.rv_atomic.specs.declared.atomic.Atomic.{Atomic}
use Rattle.rv_atomic.specs.declared.shared.Shared.{Shared}
use Rattle.rv_atomic.specs.declared.shared.Shared.TheVariants as shared
use Rattle.rv_atomic.specs.AtomicEffect.{SharedEffect}
use Rattle.rv_atomic.specs.Means.{atomic_of}
use Rattle.rv_atomic.specs.SharedEffect.{shared_effect}
use Rattle.board_space.specs.Space.{Space}
use Rattle.board_space.specs.Words.{half_in, second, word_begun}
use Rattle.board.specs.HartBus.{HartBus, fetched}
use Rattle.board.specs.HartView.{HartView}

-- what a half-word is that is an instruction by itself
abbrev pub of_half : ℕ → Fetched
of_half half = option_map_or (λ i. Good i 2 half) (expansion half) (Bad half)

-- what begins with a half-word: where its low two bits are 11, it is the lower half of a word
abbrev pub is_lower : ℕ → Bool
is_lower half = half % 4 == 3

abbrev pub begun_by : Space → ℕ → ℕ → Fetched
begun_by s at half = if is_lower half then found_at (second at) (word_begun s at half) else of_half half

abbrev pub halves_from : Space → ℕ → Option ℕ → Fetched
halves_from s at None = Fault at
halves_from s at (Some half) = begun_by s at half

-- what is fetched by half-words
abbrev pub halves_at : Space → ℕ → Fetched
halves_at s at = halves_from s at (half_in s at)

-- what a core fetches
abbrev pub fetched_by : Core → HartBus → Fetched
fetched_by core w =
    if core.letters.c then halves_at w.space core.pc else found_at core.pc (fetched w core.pc)

-- the word that a core fetches, if it is one that memories hold, and no half-word by itself
abbrev pub word_by_halves : Space → ℕ → ℕ → Option ℕ
word_by_halves s at half = if is_lower half then word_begun s at half else None

abbrev pub word_at_pc : Core → HartBus → Option ℕ
word_at_pc core w =
    if core.letters.c then option_and_then (word_by_halves w.space core.pc) (half_in w.space core.pc)
    else fetched w core.pc

-- the atomic instruction that this word is, on a core that has them
abbrev pub atomic_by : Core → HartBus → Option Atomic
atomic_by core w = if core.letters.a then option_and_then atomic_of (word_at_pc core w) else None

-- what a core does by what it fetches: an atomic instruction, or anything else
abbrev pub shared_by : Core → HartBus → Shared
shared_by core w = option_map_or shared.Atomic (atomic_by core w) (shared.Plain (fetched_by core w))

abbrev pub effect_on : HartView → HartBus → Lines → SharedEffect
effect_on v w lines = shared_effect (fetched w) v.core v.hart v.watch (shared_by v.core w) lines
