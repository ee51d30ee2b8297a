-- What is read at the front of bytes.
use Rattle.std.proofs.Common.{◌≡◌, ◌∙◌, ℕ, List, ◌++◌, refl, sym, ap}
use Rattle.std.specs.Prelude.{Result, Ok, Err, MatchResult, IfOk}
use Rattle.std.proofs.lemmas.Option.{none-some, same_Some}
use Rattle.lab_encoding.specs.declared.fault.SnapFault.{SnapFault}
use Rattle.lab_encoding.specs.declared.fault.SnapFault.TheVariants.{Bad, Memory}
use Rattle.lab_encoding.specs.Form.{Form, IsBytes, IsLawful, Spells}
use Rattle.lab_encoding.specs.Reads.{Reads}

-- what was read is spelled there
pub found : {X : Type 0} {f : Form X} → IsLawful f → (bytes rest : List ℕ) (result : Result X SnapFault) →
    Reads (f.parse bytes) rest result → IfOk result (λ x. IsBytes bytes → Spells f bytes (x, rest))
found law bytes rest (Ok x) e = λ are. law.takes bytes (x, rest) are e
found law bytes rest (Err fault) e = tt

-- what is spelled there was read
pub only : {X : Type 0} {f : Form X} → IsLawful f → (bytes rest : List ℕ) (result : Result X SnapFault) →
    Reads (f.parse bytes) rest result → (x : X) (after : List ℕ) → f.Fits x → bytes ≡ f.spell x ++ after →
    MatchResult result (λ read. (read ≡ x) × (rest ≡ after)) (λ fault. fault ≡ Memory)
only {X = X} {f = f} law bytes rest (Ok read) e x after fits is =
    let same : (read, rest) ≡ (x, after) =
    same_Some (read, rest) (x, after) (sym e ∙ ap f.parse is ∙ law.again x after fits) in
    (ap (λ (p : X × List ℕ). p.0) same, ap (λ (p : X × List ℕ). p.1) same)
only {f = f} law bytes rest (Err Bad) e x after fits is =
    absurd (none-some (x, after) (sym e ∙ ap f.parse is ∙ law.again x after fits))
only law bytes rest (Err Memory) e x after fits is = refl
