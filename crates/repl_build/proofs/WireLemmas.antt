-- Lists of wires, part by part.
use Rattle.std.proofs.Common.{◌≡◌, ◌≢◌, ℕ, ◌+◌, ◌-◌, ◌<◌, ◌∙◌, refl, sym, ap, List, [], ◌∷◌, ◌++◌, length, arith}
use Rattle.std.proofs.Common.{Option, None, Some, Result, Ok, append_assoc, add-one, suc}
use Rattle.std.specs.List.{range_with_len}
use Rattle.repl_read.specs.declared.fault.PlatFault.{PlatFault}
use Rattle.sys_bus.specs.declared.wire.Wire.{Wire}
use Rattle.repl_build.specs.First.{◌>>=◌}
use Rattle.repl_build.specs.Wires.{in_front, wired}

-- wires so far, in front of the others
abbrev pub onto : List Wire → Result (List Wire) PlatFault → Result (List Wire) PlatFault
onto done more = more >>= λ wires. Ok (done ++ wires)

abbrev pub onto_some : List Wire → Option (List Wire) → Option (List Wire)
onto_some done None = None
onto_some done (Some more) = Some (done ++ more)

first_number : (n k : ℕ) → range_with_len n (k + 1) ≡ n ∷ range_with_len (n + 1) k
first_number n k = rw add-one refl

-- a number more of a span
pub span_more :
    (done whole : List ℕ) (n end : ℕ) → n < end → done ++ range_with_len n (end - n) ≡ whole →
    (done ++ n ∷ []) ++ range_with_len (n + 1) (end - (n + 1)) ≡ whole
span_more done whole n end below all =
    let left : end - n ≡ (end - (n + 1)) + 1 = omega arith in
    append_assoc done (n ∷ []) (range_with_len (n + 1) (end - (n + 1)))
    ∙ (ap (λ more. done ++ more) (sym (ap (range_with_len n) left ∙ first_number n (end - (n + 1)))) ∙ all)

-- lists of different lengths
pub unequal :
    (f : ℕ → ℕ → Option Wire) (lines pins : List ℕ) → length lines ≢ length pins → wired f lines pins ≡ None
unequal f [] [] differ = absurd (differ refl)
unequal f [] (pin ∷ pins) differ = refl
unequal f (line ∷ lines) [] differ = refl
unequal f (line ∷ lines) (pin ∷ pins) differ =
    rw (unequal f lines pins (λ same. differ (ap (λ n. suc n) same))) (none (f line pin))
  where
    none : (wire : Option Wire) → in_front wire None ≡ None
    none None = refl
    none (Some wire) = refl
