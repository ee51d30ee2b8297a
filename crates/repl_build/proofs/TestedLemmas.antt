-- What peripherals meet that keep all rules.
use Rattle.std.proofs.Common.{◌≡◌, false, refl, List}
use Rattle.std.proofs.Common.{Option, None, Some, Result, Ok}
use Rattle.repl_read.specs.declared.fault.PlatFault.{PlatFault}
use Rattle.repl_read.specs.declared.fault.PlatFault.TheVariants.{At}
use Rattle.repl_read.specs.declared.fault.PlatCause.TheVariants as cause
use Rattle.repl_build.specs.declared.merge.Peripheral.{Peripheral}
use Rattle.repl_build.specs.declared.rules.Rule.TheVariants.{Types, Attributes, Required, Values, Core, Counts, Apart}
use Rattle.repl_build.specs.declared.rules.Rule.TheVariants.{References}
use Rattle.repl_build.specs.Counts.{is_bare}
use Rattle.repl_build.specs.First.{◌>>=◌, refuse, fault_if}
use Rattle.repl_build.specs.Plan.{tested}
use Rattle.repl_build.specs.Rules.{broken}
use Rattle.repl_build.proofs.NoneLemmas.{no_fault}

pub record Keeps (all : List Peripheral) : Type 0 where
  pub types : broken Types all ≡ None
  pub attributes : broken Attributes all ≡ None
  pub required : broken Required all ≡ None
  pub values : broken Values all ≡ None
  pub counts : broken Counts all ≡ None
  pub whole : is_bare all ≡ false
  pub apart : broken Apart all ≡ None
  pub references : broken References all ≡ None

pub passed :
    {X : Type 0} (o : Option PlatFault) (rest : Unit {0} → Result X PlatFault) (x : X) → (refuse o >>= rest) ≡ Ok x →
    (o ≡ None) × (rest tt ≡ Ok x)
passed None rest x is = (refl, is)
passed (Some fault) rest x is = absurd (cc)

refused : (o : Option PlatFault) → refuse o ≡ Ok tt → o ≡ None
refused None is = refl
refused (Some fault) is = absurd (cc)

-- peripherals in which the tests find no fault keep each rule
pub keeps : (all : List Peripheral) → tested all ≡ Ok tt → Keeps all
keeps all is =
    let a = passed (broken Types all) _ tt is in
    let b = passed (broken Attributes all) _ tt a.1 in
    let c = passed (broken Required all) _ tt b.1 in
    let d = passed (broken Values all) _ tt c.1 in
    let e = passed (broken Core all) _ tt d.1 in
    let f = passed (broken Counts all) _ tt e.1 in
    let g = passed (fault_if (is_bare all) (At 0 0 cause.Count)) _ tt f.1 in
    let h = passed (broken Apart all) _ tt g.1 in
    record {
      types = a.0;
      attributes = b.0;
      required = c.0;
      values = d.0;
      counts = f.0;
      whole = no_fault (is_bare all) _ g.0;
      apart = h.0;
      references = refused (broken References all) h.1;
    }
