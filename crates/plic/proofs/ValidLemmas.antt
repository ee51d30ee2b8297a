-- Changes that leave a PLIC a state that it can have.
use Rattle.std.proofs.Common.{◌≡◌, ℕ, ◌+◌, ◌-◌, ◌<◌, ◌≤◌, drop, replicate, slice_set, All, refl, arith, drop-set-lt}
use Rattle.std.proofs.lemmas.List.{drop-replicate}
use Rattle.std.proofs.lemmas.List.Elements.{All-replicate, All-set}
use Rattle.plic.specs.declared.state.PlicState.{PlicState}
use Rattle.plic.specs.State.{IsController, IsPlicState, plic_reset}
use Rattle.plic.specs.Sources.{AreSources}
use Rattle.plic.proofs.SetLemmas.{AreSources-zero, AreSources-union, AreSources-without}
use Rattle.plic.proofs.SetLemmas.{AreSources-raised}

-- zeros from some place on
zeros : (n m : ℕ) → All (λ (x : ℕ). x ≡ 0) (drop m (replicate n 0))
zeros n m = rw (drop-replicate {X = ℕ} m n 0) (All-replicate (λ (x : ℕ). x ≡ 0) (n - m) 0 refl)

IsPlicState-reset : (n k : ℕ) → IsPlicState n k plic_reset
IsPlicState-reset n k = record {
  pending = AreSources-zero n;
  shut = AreSources-zero n;
  priorities = record {
    levels = All-replicate (λ x. x ≤ 7) 128 0 (omega arith);
    no_source = refl;
    absent = zeros 128 (n + 1);
  };
  enables = record {
    sources = All-replicate (AreSources n) 15 0 (AreSources-zero n);
    absent = zeros 15 k;
  };
  thresholds = record {
    levels = All-replicate (λ x. x ≤ 7) 15 0 (omega arith);
    absent = zeros 15 k;
  };
}

pub IsController-pending : (n k : ℕ) (p : PlicState) (set : ℕ) →
    IsController (record { sources = n; contexts = k; state = p }) → AreSources n set →
    IsController (record { sources = n; contexts = k; state = record p { pending = set } })
IsController-pending n k p set c all = record {
  a_source = c.a_source;
  sources = c.sources;
  a_context = c.a_context;
  contexts = c.contexts;
  state = record {
    pending = all;
    shut = c.state.shut;
    priorities = c.state.priorities;
    enables = c.state.enables;
    thresholds = c.state.thresholds;
  };
}

pub IsController-shut : (n k : ℕ) (p : PlicState) (set : ℕ) →
    IsController (record { sources = n; contexts = k; state = p }) → AreSources n set →
    IsController (record { sources = n; contexts = k; state = record p { shut = set } })
IsController-shut n k p set c all = record {
  a_source = c.a_source;
  sources = c.sources;
  a_context = c.a_context;
  contexts = c.contexts;
  state = record {
    pending = c.state.pending;
    shut = all;
    priorities = c.state.priorities;
    enables = c.state.enables;
    thresholds = c.state.thresholds;
  };
}

pub IsController-enables : (n k : ℕ) (p : PlicState) (i set : ℕ) →
    IsController (record { sources = n; contexts = k; state = p }) → i < k → AreSources n set →
    IsController (record { sources = n; contexts = k; state = record p { enables = slice_set p.enables i set } })
IsController-enables n k p i set c within all = record {
  a_source = c.a_source;
  sources = c.sources;
  a_context = c.a_context;
  contexts = c.contexts;
  state = record {
    pending = c.state.pending;
    shut = c.state.shut;
    priorities = c.state.priorities;
    enables = record {
      sources = All-set (AreSources n) p.enables i set all c.state.enables.sources;
      absent = rw (drop-set-lt k p.enables i set within) c.state.enables.absent;
    };
    thresholds = c.state.thresholds;
  };
}

pub IsController-reset : (n k : ℕ) (p : PlicState) → p ≡ plic_reset → 1 ≤ n → n ≤ 127 → 1 ≤ k → k ≤ 15 →
    IsController (record { sources = n; contexts = k; state = p })
IsController-reset n k p reset a_source sources a_context contexts = rw reset (record {
  a_source = a_source;
  sources = sources;
  a_context = a_context;
  contexts = contexts;
  state = IsPlicState-reset n k;
})

-- what keeps the state of a PLIC one that it can have
pub ruleset valid_lemmas =
    (IsController-pending, IsController-shut, AreSources-union, AreSources-without, AreSources-raised)
