-- Instructions are one where their fields are.
use Rattle.std.proofs.Common.{◌≡◌, ◌∙◌, Bool, true, sym, rules, arith}
use Rattle.std.specs.Prelude.{◌&&◌, ◌==◌, ◌↔◌, IsTrue}
use Rattle.std.proofs.lemmas.Bool.Decides.{nat_tests}
use denote.Enum.Bare.{same_true, true_same}
use Rattle.rv_decode.specs.contracts.instruction.Op.{the_type}
use Rattle.rv_decode.specs.declared.instruction.Instr.{Instr}
use Rattle.rv_asm.proofs.encoder.is_same.Goals as goal

-- by a test of the names, and the fields
same_fields :
    (test : Bool) (a b : Instr) → (test ≡ true → a.op ≡ b.op) → (a.op ≡ b.op → test ≡ true) →
    IsTrue (test && (a.rd == b.rd && (a.rs1 == b.rs1 && (a.rs2 == b.rs2 && a.imm == b.imm)))) ↔ (a ≡ b)
same_fields test a b op tag = (λ tests. grind (arith, nat_tests), λ is. grind (arith, nat_tests))

pub returns : goal.returns
returns c =
    let both =
    same_fields _ c.args.a.now c.args.b.now
    (λ tests. same_true the_type (search rules) _ _ tests) (λ same. true_same the_type _ _ same) in (
      λ tests. both.0 (sym c.eq.ensures ∙ tests),
      λ same. c.eq.ensures ∙ both.1 same,
    )
