-- A sign more, or two.
use Rattle.std.proofs.Common.{sym}
use Rattle.repl_read.specs.declared.comments.Inside.TheVariants.{Nothing}
use Rattle.repl_read.specs.Comments.{blanked}
use Rattle.repl_read.proofs.CommentLemmas.{blanked_turn, blanked_one}
use Rattle.repl_read.proofs.comments.blanked.Goals as goal

pub signs-preserved-in-Some-turn : goal.signs-preserved-in-Some-turn
signs-preserved-in-Some-turn c =
    let here = rw (c.in-Some.ensures {u = tt}).cases.0 at c.signs.invariant in
    rw ((c.in_ok-extend_from_slice-in-Some-turn.ensures {u = tt}).items, c.marks.ensures)
    (blanked_turn c.signs.inside c.in-Some-turn.then c.signs.made.items c.in-Some.b.now c.in-Some.more.now
    c.in-Some-turn.after.now (blanked Nothing c.args.text.now) (sym (c.in-Some-turn.ensures {u = tt})) here)

pub signs-preserved : goal.signs-preserved
signs-preserved c =
    let here = rw (c.in-Some.ensures {u = tt}).cases.0 at c.signs.invariant in
    let seen = rw c.first_byte.ensures at c.seen.ensures in
    rw ((c.in_ok-push-in-None.ensures {u = tt}).items, seen, c.after_sign-inside.ensures)
    (blanked_one c.signs.inside c.signs.made.items c.in-Some.b.now c.in-Some.more.now
    (blanked Nothing c.args.text.now) (sym (c.in-None.ensures {u = tt})) here)
