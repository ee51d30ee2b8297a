-- One board more is lent.
use Rattle.std.proofs.Common.{◌≡◌, ◌∙◌, sym, ap, ◌+◌, ◌*◌, ◌<◌, ◌++◌, [], length, set, get_or, take, refl, arith, rules}
use Rattle.std.proofs.lemmas.List.{length_push, length-map}
use Rattle.std.proofs.lemmas.List.Edits.{map_over_more}
use Rattle.std.proofs.lemmas.Iterator.Adapters.{YieldsList-from_vec}
use Rattle.std.proofs.lemmas.Iterator.Consumers.{YieldsList-turn, YieldsList-end}
use Rattle.std.proofs.Math.Seq.{take-length}
use Rattle.std.specs.List.{flat_map}
use Rattle.std.specs.Option.{option_map}
use Rattle.board.specs.View.{View}
use Rattle.hub_mail.specs.Pass.{Pass, fresh as new_pass}
use Rattle.lab_state.specs.Board.{Board}
use Rattle.lab_state.specs.Inner.Lending.{lent, away}
use Rattle.lab_state.specs.Inner.Time.{part_of}
use Rattle.lab_state.proofs.LendLemmas.{its_pass, none_stays}
use Rattle.lab_state.proofs.ListLemmas.{not_yet, one_more}
use Rattle.lab_state.proofs.RoundLemmas.{standing_next}
use Rattle.lab_state.proofs.TimeLemmas.{part_at}
use Rattle.lab_state.proofs.lending.lend_all.Goals as goal

pub handle-grant-requires-clause-member : goal.handle-grant-requires-clause-member
handle-grant-requires-clause-member g c =
    let turn = YieldsList-turn
    (YieldsList-from_vec {s = c.into_iter-pass-iterator.result} c.args.passes.items (search rules) (search rules))
    c.loop-pass.yielded c.loop-pass.pass-iterator c.loop-pass.yielded_by c.next.result c.next.new.self
    c.in-Some.pass c.in-Some.is c.next.ensures.steps in
    let boards = c.args.boards.now in
    let below : c.loop-pass.n < length boards = omega (arith, turn.0, c.loop-pass.invariant.n, c.requires.count) in
    omega (
      arith,
      below,
      ap length c.requires.parts,
      length-map boards (part_of c.args.from.0 (c.args.from.0 + c.args.q)),
    )

pub lend-requires-clause-part : goal.lend-requires-clause-part
lend-requires-clause-part g c =
    let turn = YieldsList-turn
    (YieldsList-from_vec {s = c.into_iter-pass-iterator.result} c.args.passes.items (search rules) (search rules))
    c.loop-pass.yielded c.loop-pass.pass-iterator c.loop-pass.yielded_by c.next.result c.next.new.self
    c.in-Some.pass c.in-Some.is c.next.ensures.steps in
    let boards = c.args.boards.now in
    let below : c.loop-pass.n < length boards = omega (arith, turn.0, c.loop-pass.invariant.n, c.requires.count) in
    let part = part_at boards (part_of c.args.from.0 (c.args.from.0 + c.args.q)) away c.loop-pass.n
    c.index-boards-n.result c.requires.parts c.loop-pass.invariant.boards below c.handle-grant.ensures in
    rw part refl

pub lend-requires-clause-made : goal.lend-requires-clause-made
lend-requires-clause-made g c =
    let turn = YieldsList-turn
    (YieldsList-from_vec {s = c.into_iter-pass-iterator.result} c.args.passes.items (search rules) (search rules))
    c.loop-pass.yielded c.loop-pass.pass-iterator c.loop-pass.yielded_by c.next.result c.next.new.self
    c.in-Some.pass c.in-Some.is c.next.ensures.steps in
    let boards = c.args.boards.now in
    let below : c.loop-pass.n < length boards = omega (arith, turn.0, c.loop-pass.invariant.n, c.requires.count) in
    let stands = standing_next away (1000 * c.args.from.0) boards c.loop-pass.boards c.loop-pass.n
    c.index-boards-n.result c.loop-pass.invariant.boards below c.requires.standing in
    λ v at. let is = stands v.numbers (ap (option_map (λ (v : View). v.numbers)) at) in (
      omega (arith, is.few_posts, c.requires.within),
      omega (arith, is.few_entries, c.requires.within),
    )

pub lend-requires-clause-own : goal.lend-requires-clause-own
lend-requires-clause-own g c =
    let turn = YieldsList-turn
    (YieldsList-from_vec {s = c.into_iter-pass-iterator.result} c.args.passes.items (search rules) (search rules))
    c.loop-pass.yielded c.loop-pass.pass-iterator c.loop-pass.yielded_by c.next.result c.next.new.self
    c.in-Some.pass c.in-Some.is c.next.ensures.steps in
    let boards = c.args.boards.now in
    let below : c.loop-pass.n < length boards = omega (arith, turn.0, c.loop-pass.invariant.n, c.requires.count) in
    let is : c.in-Some.pass ≡ new_pass c.args.boss.now.mail c.loop-pass.n =
    its_pass c.args.boss.now.mail (length boards) c.in-Some.pass c.loop-pass.invariant.n c.requires.passes turn.0 turn.1
    in
    let stands = standing_next away (1000 * c.args.from.0) boards c.loop-pass.boards c.loop-pass.n
    c.index-boards-n.result c.loop-pass.invariant.boards below c.requires.standing in
    λ v at.
    ap (λ (p : Pass). p.board) is ∙ sym (stands v.numbers (ap (option_map (λ (v : View). v.numbers)) at)).number

pub lend-requires-clause-new : goal.lend-requires-clause-new
lend-requires-clause-new g c =
    let turn = YieldsList-turn
    (YieldsList-from_vec {s = c.into_iter-pass-iterator.result} c.args.passes.items (search rules) (search rules))
    c.loop-pass.yielded c.loop-pass.pass-iterator c.loop-pass.yielded_by c.next.result c.next.new.self
    c.in-Some.pass c.in-Some.is c.next.ensures.steps in
    let boards = c.args.boards.now in
    let below : c.loop-pass.n < length boards = omega (arith, turn.0, c.loop-pass.invariant.n, c.requires.count) in
    let is : c.in-Some.pass ≡ new_pass c.args.boss.now.mail c.loop-pass.n =
    its_pass c.args.boss.now.mail (length boards) c.in-Some.pass c.loop-pass.invariant.n c.requires.passes turn.0 turn.1
    in
    ap (λ (p : Pass). p.posted) is

pub loop-pass-preserved : goal.loop-pass-preserved
loop-pass-preserved g c =
    let turn = YieldsList-turn
    (YieldsList-from_vec {s = c.into_iter-pass-iterator.result} c.args.passes.items (search rules) (search rules))
    c.loop-pass.yielded c.loop-pass.pass-iterator c.loop-pass.yielded_by c.next.result c.next.new.self
    c.in-Some.pass c.in-Some.is c.next.ensures.steps in
    let boards = c.args.boards.now in
    let below : c.loop-pass.n < length boards = omega (arith, turn.0, c.loop-pass.invariant.n, c.requires.count) in
    let is : c.in-Some.pass ≡ new_pass c.args.boss.now.mail c.loop-pass.n =
    its_pass c.args.boss.now.mail (length boards) c.in-Some.pass c.loop-pass.invariant.n c.requires.passes turn.0 turn.1
    in
    let mail = c.args.boss.now.mail in
    let from = c.args.from.0 in
    let to = from + c.args.q in
    let i = c.loop-pass.n in
    let item = c.index-boards-n.result in
    let part = part_at boards (part_of from to) away i item c.requires.parts c.loop-pass.invariant.boards below
    c.handle-grant.ensures in
    let same : get_or c.loop-pass.boards i item ≡ get_or boards i item =
    ap (λ boards. get_or boards i item) c.loop-pass.invariant.boards ∙ not_yet away boards i item in
    record {
      n = omega (arith, c.loop-pass.invariant.n, length_push c.loop-pass.yielded c.in-Some.pass);
      boards =
          ap (set c.loop-pass.boards i) (c.in_ok-lend.ensures.board ∙ ap away (sym c.index-boards-n.is))
          ∙ map_over_more away boards c.loop-pass.boards i item below c.loop-pass.invariant.boards
          c.index-boards-n.is;
      jobs =
          one_more (lent mail from to) [] boards i item below c.loop-pass.invariant.jobs
          (rw (part, ap (λ (p : Pass). p.mail) is) at c.in_ok-lend.ensures.jobs
          ∙ ap (λ (board : Board). c.loop-pass.jobs.items ++ lent mail from to board) same);
    }

pub returns-clause-boards : goal.returns-clause-boards
returns-clause-boards g c =
    let end = YieldsList-end
    (YieldsList-from_vec {s = c.into_iter-pass-iterator.result} c.args.passes.items (search rules) (search rules))
    c.loop-pass.yielded c.loop-pass.pass-iterator c.loop-pass.yielded_by c.next.result c.next.new.self c.in-None.is
    c.next.ensures.steps in
    let boards = c.args.boards.now in
    let all : c.loop-pass.n ≡ length boards = omega (arith, end.1, c.loop-pass.invariant.n, c.requires.count) in
    c.loop-pass.invariant.boards ∙ none_stays away boards c.loop-pass.n all

pub returns-clause-jobs : goal.returns-clause-jobs
returns-clause-jobs g c =
    let end = YieldsList-end
    (YieldsList-from_vec {s = c.into_iter-pass-iterator.result} c.args.passes.items (search rules) (search rules))
    c.loop-pass.yielded c.loop-pass.pass-iterator c.loop-pass.yielded_by c.next.result c.next.new.self c.in-None.is
    c.next.ensures.steps in
    let boards = c.args.boards.now in
    let all : c.loop-pass.n ≡ length boards = omega (arith, end.1, c.loop-pass.invariant.n, c.requires.count) in
    c.loop-pass.invariant.jobs
    ∙ ap (flat_map (lent c.args.boss.now.mail c.args.from.0 (c.args.from.0 + c.args.q)))
    (ap (λ n. take n boards) all ∙ take-length boards)
