-- A fault is of the form or a feature that is left out, at a line from 1 on.
use Rattle.std.proofs.Common.{◌≡◌, ℕ, ◌+◌, ◌<◌, ◌⊎◌, inl, inr, refl, List, [], ◌∷◌, Result, Ok, Err, lit<, arith}
use Rattle.repl_read.specs.declared.fault.PlatCause.TheVariants as plat
use Rattle.repl_read.specs.declared.fault.ReadCause.{ReadCause}
use Rattle.repl_read.specs.declared.fault.ReadCause.TheVariants.{Form, Feature}
use Rattle.repl_read.specs.declared.lines.Stand.{Stand}
use Rattle.repl_read.specs.declared.lines.Stand.TheVariants.{Apart}
use Rattle.repl_read.specs.declared.tokens.TokenLine.{TokenLine}
use Rattle.repl_read.specs.Laws.{IsFault}
use Rattle.repl_read.specs.Platform.{◌>>=◌, LineFault, plat_cause, at_line, read_lines, platform, token_lines}

two_causes : (cause : ReadCause) → (plat_cause cause ≡ plat.Form) ⊎ (plat_cause cause ≡ plat.Feature)
two_causes Form = inl refl
two_causes Feature = inr refl

at_line-fault : {X : Type 0} (n : ℕ) (r : Result X ReadCause) → 0 < n → IsFault (at_line n r)
at_line-fault n (Ok x) some = tt
at_line-fault n (Err cause) some = (some, two_causes cause)

then-fault :
    {A B : Type 0} (r : Result A LineFault) (f : A → Result B LineFault) → IsFault r → ((x : A) → IsFault (f x)) →
    IsFault (r >>= f)
then-fault (Ok x) f fault rest = rest x
then-fault (Err e) f fault rest = fault

read_lines-fault : (stand : Stand) (n : ℕ) (lines : List TokenLine) → 0 < n → IsFault (read_lines stand n lines)
read_lines-fault stand n [] some = tt
read_lines-fault stand n (line ∷ later) some =
    then-fault (at_line n _) _ (at_line-fault n _ some)
    (λ said.
    then-fault (read_lines said.next (n + 1) later) _
    (read_lines-fault said.next (n + 1) later (omega arith)) (λ rest. tt))

pub platform-fault : (text : List ℕ) → IsFault (platform text)
unfolding platform
platform-fault text =
    then-fault (read_lines Apart 1 (token_lines text)) _
    (read_lines-fault Apart 1 (token_lines text) (lit< tt)) (λ rest. tt)
