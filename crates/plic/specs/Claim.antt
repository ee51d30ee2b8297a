-- What a PLIC tells a context, and what the context claims (RISC-V PLIC 1.0.0).
use Rattle.std.specs.Prelude.{ℕ, ◌==◌, ◌&&◌, ◌||◌, nat_lt, nat_le, not, Bool, if◌then◌else◌, find, unwrap_or}
use Rattle.std.specs.Prelude.{slice_index}
use Rattle.std.specs.List.{list_all, list_any}
use Rattle.plic.specs.declared.state.PlicState.{PlicState}
use Rattle.plic.specs.Gateway.{is_enabled}
use Rattle.plic.specs.Sources.{has, sources, without}

abbrev pub priority : PlicState → ℕ → ℕ
priority p source = slice_index p.priorities source

abbrev pub threshold : PlicState → ℕ → ℕ
threshold p context = slice_index p.thresholds context

-- whether a source is pending and enabled in a context
abbrev pub is_ready : PlicState → ℕ → ℕ → Bool
is_ready p context source = has p.pending source && is_enabled p context source

-- whether a source interrupts a context: its priority is above the threshold ("Priority Thresholds")
abbrev pub interrupts : PlicState → ℕ → ℕ → Bool
interrupts p context source = is_ready p context source && nat_lt (threshold p context) (priority p source)

-- the output to a context: some source interrupts it
unfoldable pub output : ℕ → PlicState → ℕ → Bool
output n p context = list_any (interrupts p context) (sources n)

-- whether a context can claim a source, whatever its threshold: priority 0 is never to interrupt
-- ("Interrupt Priorities", "Interrupt Claim Process")
abbrev pub is_claimable : PlicState → ℕ → ℕ → Bool
is_claimable p context source = is_ready p context source && nat_lt 0 (priority p source)

-- whether no source that the context can claim is of a greater priority
abbrev pub is_highest : ℕ → PlicState → ℕ → ℕ → Bool
is_highest n p context source =
    list_all (λ s. not (is_claimable p context s) || nat_le (priority p s) (priority p source)) (sources n)

-- what a context claims: of the sources of the greatest priority the one of the least number, or 0 if there is none
unfoldable pub claim : ℕ → PlicState → ℕ → ℕ
claim n p context =
    unwrap_or (find (λ s. is_claimable p context s && is_highest n p context s) (sources n)) 0

-- the state after a claim: what is claimed is no longer pending
unfoldable pub after_claim : ℕ → PlicState → ℕ → PlicState
after_claim n p context =
    if claim n p context == 0 then p else record p { pending = without p.pending (claim n p context) }
