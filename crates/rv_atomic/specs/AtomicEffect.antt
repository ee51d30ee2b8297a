-- What an atomic instruction does to its core, to the bus and to the reservations (RISC-V Unprivileged ISA 20191213,
-- sections 8.2 and 8.4).
use Rattle.std.specs.Prelude.{ℕ, ◌%◌, ◌==◌, if◌then◌else◌, List, Option, Some, None, slice_set}
use Rattle.std.specs.Option.{option_map_or}
use Rattle.rv_hart.specs.Cause.{load_access_fault, load_address_misaligned}
use Rattle.rv_hart.specs.Cause.{store_access_fault, store_address_misaligned}
use Rattle.rv_hart.specs.Core.{Core, reg, finish}
use Rattle.rv_exec.specs.Effect.{Effect, Done, Store}
use Rattle.rv_exec.specs.Outcome.{retires, traps}
use Rattle.rv_atomic.specs.declared.atomic.AtomicOp.{AtomicOp}
use Rattle.rv_atomic.specs.declared.atomic.AtomicOp.TheVariants.{Lr, Sc}
use Rattle.rv_atomic.specs.declared.atomic.Atomic.{Atomic}
use Rattle.rv_atomic.specs.Combined.{combined}
use Rattle.rv_atomic.specs.Watch.{after_store, has_reserved}

-- what the slot does to the core and asks of the bus, and the reservations after it
pub record SharedEffect : Type 0 where
  pub effect : Effect
  pub watch : List (Option ℕ)

abbrev pub leaves : Effect → List (Option ℕ) → SharedEffect
leaves effect watch = record { effect = effect; watch = watch }

-- the causes of an address that is not divisible by 4, and of a word that no memory holds (Privileged ISA 20211203,
-- table 3.6); all but LR count as stores
abbrev pub misaligned_cause : AtomicOp → ℕ
misaligned_cause Lr = load_address_misaligned
misaligned_cause _ = store_address_misaligned

abbrev pub access_fault_cause : AtomicOp → ℕ
access_fault_cause Lr = load_access_fault
access_fault_cause _ = store_access_fault

-- the address of an atomic instruction
abbrev pub address : Core → Atomic → ℕ
address core a = reg core a.rs1

-- the instruction gives this word and stores nothing
abbrev pub gives : Core → Atomic → ℕ → Effect
gives core a word = Done (retires (finish core 4 a.rd word))

-- the instruction gives this word, and stores at its address what the word in memory becomes
abbrev pub gives_and_stores : Core → Atomic → ℕ → ℕ → Effect
gives_and_stores core a word new = Store (address core a) 4 new (retires (finish core 4 a.rd word))

-- LR gives the word, and its hart reserves it in place of an earlier one
abbrev pub load_reserved : Core → ℕ → List (Option ℕ) → Atomic → ℕ → SharedEffect
load_reserved core number watch a word =
    leaves (gives core a word) (slice_set watch number (Some (address core a)))

-- SC stores and gives 0 where its hart has reserved the word; else it stores nothing and gives 1. Either way its
-- reservation ends.
abbrev pub store_conditional : Core → ℕ → List (Option ℕ) → Atomic → SharedEffect
store_conditional core number watch a =
    if has_reserved watch number (address core a) then
    leaves (gives_and_stores core a 0 (reg core a.rs2))
    (slice_set (after_store number (address core a) 4 watch) number None)
    else leaves (gives core a 1) (slice_set watch number None)

-- the others give the word and store its combination with rs2
abbrev pub combines : Core → ℕ → List (Option ℕ) → Atomic → ℕ → SharedEffect
combines core number watch a word =
    leaves (gives_and_stores core a word (combined a.op word (reg core a.rs2)))
    (after_store number (address core a) 4 watch)

-- an atomic instruction whose address is that of this word in memory
abbrev pub with_word : AtomicOp → Core → ℕ → List (Option ℕ) → Atomic → ℕ → SharedEffect
with_word Lr core number watch a word = load_reserved core number watch a word
with_word Sc core number watch a word = store_conditional core number watch a
with_word _ core number watch a word = combines core number watch a word

-- an atomic instruction, where these are the words in memory, or an exception, which ends no reservation
unfoldable pub atomic_effect : (ℕ → Option ℕ) → Core → ℕ → List (Option ℕ) → Atomic → SharedEffect
atomic_effect memory core number watch a =
    if address core a % 4 == 0 then
    option_map_or (with_word a.op core number watch a) (memory (address core a))
    (leaves (Done (traps core (access_fault_cause a.op) (address core a))) watch)
    else leaves (Done (traps core (misaligned_cause a.op) (address core a))) watch
