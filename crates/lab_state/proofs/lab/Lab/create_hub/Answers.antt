-- A hub more, under a name of its own.
use Rattle.std.proofs.Common.{◌∙◌, sym, ap, refl, []}
use Rattle.lab_state.specs.Lab.{Seen}
use Rattle.lab_state.specs.Names.{is_taken}
use Rattle.lab_state.proofs.SoundLemmas.{sound-hub, unspent}
use Rattle.lab_state.proofs.lab.Lab.create_hub.Goals as goal

pub invariant_of-self-2 : goal.invariant_of-self-2
invariant_of-self-2 g c h =
    let sound = unspent c.self.invariant c.self.view_is c.requires.unspent in
    let free =
    ap (λ (s : Seen). is_taken s.lab c.in_ok-text.text) c.self.view_is
    ∙ ap (is_taken c.args.self.now.lab) c.in_ok-text.ensures ∙ sym c.is_taken.ensures ∙ c.if-is_taken.false in
    rw c.in_ok-create.ensures.ok
    (sound-hub (record {
      name = c.in_ok-text.text;
      kind = c.args.kind;
      delay = c.args.delay;
      members = [];
    })
    sound refl c.requires.delay free
    (record { name = rw c.in_ok-text.ensures c.requires.is_name; kind = c.requires.kind }))
