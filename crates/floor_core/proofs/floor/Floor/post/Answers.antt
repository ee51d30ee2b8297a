use Rattle.std.proofs.Common.{◌≡◌, ◌∙◌, ◌++◌, refl, ap, sym}
use Rattle.floor_core.specs.Events.{MayPost, relieved, oldest}
use Rattle.floor_core.specs.Floor.{Floor}
use Rattle.floor_core.proofs.BoardLemmas.{placed, within, read_at, said_of}
use Rattle.floor_core.proofs.SoundLemmas.{oldest_is}
use Rattle.floor_core.proofs.floor.Floor.post.Goals as goal
use Rattle.lab_num.proofs.ListLemmas.{first_none}

pub returns-in_ok-push-in-Some-clause-posted : goal.returns-in_ok-push-in-Some-clause-posted
returns-in_ok-push-in-Some-clause-posted g c =
    rw (← c.self.view_is)
    (let items = c.self.inside.desks.items in
    let mail = c.self.inside.mail.items in
    let k = c.args.board.0 in
    let x = c.index_mut-desk.result.now in
    let below = within (MayPost c.args.worker) items k (rw (← c.self.view_is) at c.requires) in
    let boards =
    placed relieved items items k c.from.result x c.drop_post.new.self refl c.from.ensures below
    c.index_mut-desk.ensures.value c.drop_post.ensures in
    let f : Floor _ = record { boards = items; mail = mail; is_ended = c.self.inside.is_ended } in
    let sent =
    oldest_is f c.args.board x c.in-Some.post
    (read_at items k c.from.result x c.from.ensures below c.index_mut-desk.ensures.value) (sym c.in-Some.ensures) in
    let mail_is : c.push.new.self.items ≡ mail ++ oldest f c.args.board =
    c.in_ok-push-in-Some.ensures.items ∙ ap (λ l. mail ++ l) (sym sent) in
    λ j. record { boards = boards j; mail = mail_is j; is_ended = c.self.inside.is_ended })

pub returns-in-None-clause-posted : goal.returns-in-None-clause-posted
returns-in-None-clause-posted g c =
    let items = c.self.inside.desks.items in
    let k = c.args.board.0 in
    let x = c.index_mut-desk.result.now in
    let legal = rw (← c.self.view_is) at c.requires in
    let below = within (MayPost c.args.worker) items k legal in
    let may = said_of (MayPost c.args.worker) items k c.from.result x c.from.ensures below
    c.index_mut-desk.ensures.value legal in
    absurd (may.1 (first_none x.job.unsent (sym c.in-None.ensures)))
