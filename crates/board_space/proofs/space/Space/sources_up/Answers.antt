use Rattle.std.proofs.Common.{◌∙◌, ap, refl, arith}
use Rattle.std.specs.List.{list_any}
use Rattle.std.proofs.lemmas.List.{take_all}
use Rattle.std.proofs.lemmas.Nat.Bits.{bit_at-zero}
use Rattle.board_space.specs.Lines.{brings_source_up, source_up}
use Rattle.board_space.proofs.SourceLemmas.{more_wires, set_of_test}
use Rattle.board_space.proofs.space.Space.sources_up.Goals as goal

pub loop-wire-init : goal.loop-wire-init
loop-wire-init g c = record { fits = omega arith; each = λ s below. rw (bit_at-zero s) refl }

pub loop-wire-preserved : goal.loop-wire-preserved
loop-wire-preserved g c = record {
  fits = c.with_wire-set.type_inv;
  each = λ s below.
      more_wires (brings_source_up c.args.self.now s) c.items-wires.result.now c.loop-wire.wire-index _ _ _
      c.loop-wire-test.true (c.loop-wire.invariant.each s below) (c.with_wire-set.ensures s below);
}

pub returns : goal.returns
returns g c =
    let laws = c.sets_have_what_passes.ensures in
    let wires = c.items-wires.result.now in
    set_of_test laws.passes laws.same c.loop-wire.set (source_up c.args.self.now) c.loop-wire.invariant.fits
    (λ s below.
    c.loop-wire.invariant.each s below
    ∙ ap (λ all. list_any (brings_source_up c.args.self.now s) all)
    (take_all c.loop-wire.wire-index wires c.loop-wire-test.false
    ∙ c.items-wires.ensures ∙ ap (λ space. space.plan.wires) c.self.view_is))
