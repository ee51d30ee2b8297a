-- One board more is taken back.
use Rattle.std.proofs.Common.{◌≡◌, ◌∙◌, sym, ap, refl, ◌<◌, [], ◌++◌, length, arith, rules}
use Rattle.std.proofs.lemmas.List.{append-nil, length-map, length_push, flat_map_more}
use Rattle.std.proofs.lemmas.Iterator.Adapters.{YieldsList-from_vec}
use Rattle.std.proofs.lemmas.Iterator.Consumers.{YieldsList-turn}
use Rattle.hub_mail.specs.Boss.{Boss}
use Rattle.board_job.specs.BoardJob.{BoardJob}
use Rattle.time_source.specs.Tree.{Tree}
use Rattle.lab_state.specs.Inner.Lending.{put_back, its_grant, unused}
use Rattle.lab_state.proofs.LendLemmas.{at_place, boss_more, none_by, length-by, came_later, source_more, boards_more}
use Rattle.lab_state.proofs.lending.take_all_back.Goals as goal

pub loop-job-init : goal.loop-job-init
loop-job-init g c =
    let source = c.args.source.now in
    record {
      n = refl;
      source = ap (λ handles. record source { handles = handles }) (sym (none_by its_grant source.handles));
      boards = sym (none_by put_back c.args.boards.now);
      boss =
          ap (λ sent. record c.args.boss.now { taken = sent }) (sym (append-nil c.args.boss.now.taken));
      entries = rw c.new-entries.ensures.items refl;
    }

pub put-requires-clause-member : goal.put-requires-clause-member
put-requires-clause-member g c =
    let turn = YieldsList-turn
    (YieldsList-from_vec {s = c.into_iter-job-iterator.result} c.args.jobs.items (search rules) (search rules))
    c.loop-job.yielded c.loop-job.job-iterator c.loop-job.yielded_by c.next.result c.next.new.self
    c.in-Some.job c.in-Some.is c.next.ensures.steps in
    omega (
      arith,
      turn.0,
      c.loop-job.invariant.n,
      ap (λ (t : Tree). length t.handles) c.loop-job.invariant.source,
      length-by its_grant c.args.source.now.handles c.loop-job.yielded,
      ap length c.requires.parts,
      length-map c.args.jobs.items (λ (p : BoardJob). unused p.grant),
    )

pub put-requires-clause-later : goal.put-requires-clause-later
put-requires-clause-later g c =
    let turn = YieldsList-turn
    (YieldsList-from_vec {s = c.into_iter-job-iterator.result} c.args.jobs.items (search rules) (search rules))
    c.loop-job.yielded c.loop-job.job-iterator c.loop-job.yielded_by c.next.result c.next.new.self
    c.in-Some.job c.in-Some.is c.next.ensures.steps in
    came_later c.loop-job.yielded c.in-Some.job c.loop-job.invariant.n c.args.jobs.items
    c.args.source.now.handles (ap (λ (t : Tree). t.handles) c.loop-job.invariant.source) c.requires.parts turn.0
    turn.1 c.in_ok-grant.ensures.grant

pub take_back-requires-clause-quiet : goal.take_back-requires-clause-quiet
take_back-requires-clause-quiet g c =
    let turn = YieldsList-turn
    (YieldsList-from_vec {s = c.into_iter-job-iterator.result} c.args.jobs.items (search rules) (search rules))
    c.loop-job.yielded c.loop-job.job-iterator c.loop-job.yielded_by c.next.result c.next.new.self
    c.in-Some.job c.in-Some.is c.next.ensures.steps in
    at_place (λ (p : BoardJob). p.board.posts ≡ []) c.args.jobs.items c.loop-job.yielded c.in-Some.job
    c.requires.quiet turn.0 turn.1

pub take_back-requires-clause-mail : goal.take_back-requires-clause-mail
take_back-requires-clause-mail g c =
    let turn = YieldsList-turn
    (YieldsList-from_vec {s = c.into_iter-job-iterator.result} c.args.jobs.items (search rules) (search rules))
    c.loop-job.yielded c.loop-job.job-iterator c.loop-job.yielded_by c.next.result c.next.new.self
    c.in-Some.job c.in-Some.is c.next.ensures.steps in
    at_place (λ (p : BoardJob). p.pass.mail ≡ c.args.boss.now.mail) c.args.jobs.items c.loop-job.yielded
    c.in-Some.job c.requires.mail turn.0 turn.1
    ∙ sym (ap (λ (b : Boss). b.mail) c.loop-job.invariant.boss)

pub loop-job-preserved : goal.loop-job-preserved
loop-job-preserved g c =
    let turn = YieldsList-turn
    (YieldsList-from_vec {s = c.into_iter-job-iterator.result} c.args.jobs.items (search rules) (search rules))
    c.loop-job.yielded c.loop-job.job-iterator c.loop-job.yielded_by c.next.result c.next.new.self
    c.in-Some.job c.in-Some.is c.next.ensures.steps in
    let is = c.loop-job.invariant in
    let ps = c.loop-job.yielded in
    let p = c.in-Some.job in
    let grants : length ps < length c.args.source.now.handles =
    omega (
      arith,
      turn.0,
      ap length c.requires.parts,
      length-map c.args.jobs.items (λ (p : BoardJob). unused p.grant),
    ) in
    record {
      n = omega (arith, is.n, length_push ps p);
      source =
          source_more ps p is.n c.args.source.now is.source grants c.in_ok-grant.ensures.grant
          c.put.ensures.placed;
      boards =
          boards_more ps p is.n c.args.boards.now c.index-boards-n.result is.boards
          (omega (arith, turn.0, c.requires.count)) c.in_ok-grant.ensures.board;
      boss = c.in_ok-grant.ensures.posts ∙ boss_more ps p c.args.boss.now is.boss;
      entries =
          c.in_ok-grant.ensures.entries ∙ ap (λ entries. entries ++ p.board.entries) is.entries
          ∙ flat_map_more (λ (p : BoardJob). p.board.entries) [] ps p;
    }
