-- Each test is of one part of a laboratory that can go on.
use Rattle.std.proofs.Common.{◌∙◌, sym}
use Rattle.std.proofs.lemmas.Bool.{false≢true}
use Rattle.lab_snap.specs.Inner.Parts.{AreValid}
use Rattle.lab_snap.proofs.ValidParts.{fit_of, parts_of, posts_by, valid_of}
use Rattle.lab_snap.proofs.valid.is_valid.Goals as goal
use Rattle.lab_snap.proofs.valid.is_valid.Goals.{then-are_waiting, else-are_waiting}
use Rattle.lab_snap.proofs.valid.is_valid.Goals.{then-not-are_times-via-then-not-are_times}
use Rattle.lab_snap.proofs.valid.is_valid.Goals.{then-not-are_times-via-else-not-are_times+then-not-are_boards}
use Rattle.lab_snap.proofs.valid.is_valid.Goals.{then-not-are_times-via-else-not-are_times+else-not-are_boards+then-not-are_hubs}

pub returns-then-not-are_times : goal.returns-then-not-are_times
returns-then-not-are_times c = (
  λ never. absurd (false≢true never),
  λ both.
      let are = parts_of c.args.lab.now both.0 both.1 in
      elim c.then-not-are_times.branch [
        | then-not-are_times-via-then-not-are_times w ↦
            sym w.if-not-are_times.true ∙ c.are_times.ensures.1 are.times
        | then-not-are_times-via-else-not-are_times+then-not-are_boards w ↦
            sym w.if-not-are_boards.true ∙ w.are_boards.ensures.1 (rw w.items.ensures are.boards)
        | then-not-are_times-via-else-not-are_times+else-not-are_boards+then-not-are_hubs w ↦
            sym w.if-not-are_hubs.true
            ∙ w.are_hubs.ensures.1
            (rw (w.items-else-not-are_boards.ensures, w.items-else-not-are_boards-2.ensures) are.hubs)
      ],
)

pub returns-then-not-branch : goal.returns-then-not-branch
returns-then-not-branch c = (
  λ never. absurd (false≢true never),
  λ both.
      sym c.if-not-branch.true
      ∙ c.in_ok-do_names_differ.ensures.1 (parts_of c.args.lab.now both.0 both.1).names,
)

pub returns-after-are_waiting : goal.returns-after-are_waiting
returns-after-are_waiting c =
    let lab = c.args.lab.now in
    let table = rw (c.in-Some.is, c.items-2.ensures) at c.in_ok-delays.ensures in (
      λ yes. elim c.if-are_waiting.branch [
        | then-are_waiting w ↦
            let are : AreValid lab =
            record {
              times = c.are_times.ensures.0 c.if-not-are_times.false;
              names = c.in_ok-do_names_differ.ensures.0 c.if-not-branch.false;
              boards = rw c.items.ensures at (c.are_boards.ensures.0 c.if-not-are_boards.false);
              hubs =
                  rw (c.items-else-not-are_boards.ensures, c.items-else-not-are_boards-2.ensures) at
                  (c.are_hubs.ensures.0 c.if-not-are_hubs.false);
              once = table.0;
              posts = posts_by lab _ _ table.1 (c.are_waiting.ensures.0 w.if-are_waiting.true);
              lines = w.are_open.ensures.0 (sym w.result-is ∙ yes);
            } in
            (fit_of lab are, valid_of lab are)
        | else-are_waiting w ↦ absurd (false≢true (sym w.if-are_waiting.false ∙ sym w.result-is ∙ yes))
      ],
      λ both.
          let are = parts_of lab both.0 both.1 in
          elim c.if-are_waiting.branch [
            | then-are_waiting w ↦ w.result-is ∙ w.are_open.ensures.1 are.lines
            | else-are_waiting w ↦
                w.result-is
                ∙ c.are_waiting.ensures.1 (posts_by lab _ _ (λ m. sym (table.1 m)) are.posts)
          ],
    )

pub returns-in-None : goal.returns-in-None
returns-in-None c = (
  λ never. absurd (false≢true never),
  λ both.
      let never = rw (c.in-None.is, c.items-2.ensures) at c.in_ok-delays.ensures in
      absurd (never (parts_of c.args.lab.now both.0 both.1).once),
)
