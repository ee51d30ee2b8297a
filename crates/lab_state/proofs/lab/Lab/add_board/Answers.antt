-- A name more.
use Rattle.std.proofs.Common.{◌∙◌, sym, ap, ◌<◌, length, arith}
use Rattle.lab_state.specs.Lab.{Seen}
use Rattle.lab_state.specs.Names.{is_taken}
use Rattle.lab_state.proofs.SoundLemmas.{sound-push, unspent}
use Rattle.lab_state.proofs.TimeLemmas.{joined}
use Rattle.lab_state.proofs.lab.Lab.add_board.Goals as goal

pub invariant_of-self-2 : goal.invariant_of-self-2
invariant_of-self-2 g c h =
    let free =
    ap (λ (s : Seen). is_taken s.lab c.in_ok-text.text) c.self.view_is
    ∙ ap (is_taken c.args.self.now.lab) c.in_ok-text.ensures ∙ sym c.is_taken.ensures ∙ c.if-is_taken.false in
    let room : length c.self.inside.boards.items < 16 = omega arith in
    let sound = unspent c.self.invariant c.self.view_is c.requires.unspent in
    let member = joined c.self.inside.boards.items sound.timed _ c.add-member.ensures.full
    c.add-member.ensures.added room in
    rw (c.in_ok-push.ensures.ok, c.new.ensures, member)
    (sound-push c.in_ok-text.text sound room free (rw c.in_ok-text.ensures c.requires.is_name))
