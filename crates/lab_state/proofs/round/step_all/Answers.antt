-- One board more has taken its slots.
use Rattle.std.proofs.Common.{◌≡◌, ◌∙◌, sym, ap, refl, ◌+◌, ◌*◌, ◌++◌, set, get_or, length, arith}
use Rattle.std.proofs.lemmas.List.{length-map}
use Rattle.std.proofs.lemmas.List.Edits.{map_over_more}
use Rattle.log_merge.specs.Merge.{all_entries}
use Rattle.std.specs.Option.{option_map}
use Rattle.board.specs.View.{View}
use Rattle.lab_state.specs.Board.{Board}
use Rattle.lab_state.specs.Round.{stepped, posts_made, entries_made}
use Rattle.lab_state.specs.Inner.End.{in_round}
use Rattle.lab_state.specs.Inner.Time.{part_of}
use Rattle.lab_state.proofs.ListLemmas.{not_yet, one_more}
use Rattle.lab_state.proofs.RoundLemmas.{standing_next}
use Rattle.lab_state.proofs.TimeLemmas.{part_at}
use Rattle.lab_state.proofs.round.step_all.Goals as goal

pub handle-grant-requires-clause-member : goal.handle-grant-requires-clause-member
handle-grant-requires-clause-member g c =
    omega (
      arith,
      ap length c.requires.parts,
      length-map c.args.boards.now (part_of c.args.from.0 (c.args.from.0 + c.args.q)),
      c.loop-n-test.true,
    )

pub step-requires-clause-part : goal.step-requires-clause-part
step-requires-clause-part g c =
    let part = part_at c.args.boards.now (part_of c.args.from.0 (c.args.from.0 + c.args.q))
    (stepped (in_round c.args.from.0 c.args.q)) c.loop-n.n c.index-boards-n.result c.requires.parts
    c.loop-n.invariant.boards c.loop-n-test.true c.handle-grant.ensures in
    rw part refl

pub step-requires-clause-made : goal.step-requires-clause-made
step-requires-clause-made g c =
    let stands = standing_next (stepped (in_round c.args.from.0 c.args.q)) (1000 * c.args.from.0) c.args.boards.now
    c.loop-n.boards c.loop-n.n c.index-boards-n.result c.loop-n.invariant.boards c.loop-n-test.true
    c.requires.standing in
    λ v at. let is = stands v.numbers (ap (option_map (λ (v : View). v.numbers)) at) in (
      omega (arith, is.few_posts, c.requires.within),
      omega (arith, is.few_entries, c.requires.within),
    )

pub loop-n-preserved : goal.loop-n-preserved
loop-n-preserved g c =
    let grant = in_round c.args.from.0 c.args.q in
    let i = c.loop-n.n in
    let old = c.args.boards.now in
    let item = c.index-boards-n.result in
    let part = part_at old (part_of c.args.from.0 (c.args.from.0 + c.args.q)) (stepped grant) i item c.requires.parts
    c.loop-n.invariant.boards c.loop-n-test.true c.handle-grant.ensures in
    let same : get_or c.loop-n.boards i item ≡ get_or old i item =
    ap (λ boards. get_or boards i item) c.loop-n.invariant.boards ∙ not_yet (stepped grant) old i item in
    record {
      boards =
          ap (set c.loop-n.boards i)
          (rw part at c.in_ok-step.ensures.board ∙ ap (stepped grant) (sym c.index-boards-n.is))
          ∙ map_over_more (stepped grant) old c.loop-n.boards i item c.loop-n-test.true c.loop-n.invariant.boards
          c.index-boards-n.is;
      posts =
          one_more (posts_made grant) c.args.made.now.posts.items old i item c.loop-n-test.true
          c.loop-n.invariant.posts
          (rw part at c.in_ok-step.ensures.posts
          ∙ ap (λ (board : Board). c.loop-n.made.posts.items ++ posts_made grant board) same);
      entries =
          one_more (entries_made grant) (all_entries c.args.made.now.entries.items) old i item c.loop-n-test.true
          c.loop-n.invariant.entries
          (rw part at c.in_ok-step.ensures.entries
          ∙ ap (λ (board : Board). all_entries c.loop-n.made.entries.items ++ entries_made grant board) same);
    }
