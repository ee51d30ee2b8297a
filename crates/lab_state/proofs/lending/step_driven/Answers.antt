-- What was lent comes back as the slots of the round have left it, and all that was posted is taken out.
use Rattle.std.proofs.Common.{◌≡◌, ◌∙◌, sym, ap, refl, ◌+◌, ◌<◌, ◌^◌, [], map, length, subst, arith}
use Rattle.std.proofs.lemmas.List.{length-map}
use Rattle.std.proofs.lemmas.List.Elements.{All-from_recursion, All-map, All-weaker}
use Rattle.std.specs.List.{flat_map, All}
use Rattle.dev_core.specs.Post.{post_key}
use Rattle.lab_num.specs.Listing.{listing}
use Rattle.hub_mail.specs.declared.view.Sent.{Sent}
use Rattle.hub_mail.specs.Boss.{Boss}
use Rattle.board_job.specs.BoardJob.{BoardJob}
use Rattle.board_job.specs.Ran.{ran}
use Rattle.time_handle.specs.Grant.{left}
use Rattle.lab_state.specs.Inner.Lending.{lent, away, put_back, each_by, its_grant, unused}
use Rattle.lab_state.specs.Inner.Time.{used_up}
use Rattle.lab_state.proofs.LendLemmas.{HasRoom, all_have_room, planned, come, count_of, sent_of, taken_are}
use Rattle.lab_state.proofs.lending.step_driven.Goals as goal

pub lend_all-requires-clause-count : goal.lend_all-requires-clause-count
lend_all-requires-clause-count g c =
    ap length c.in_ok-boss.ensures.passes ∙ count_of c.in_ok-boss.boss.mail (length c.args.boards.now)

pub run_boards_in_order-requires-clause-sent : goal.run_boards_in_order-requires-clause-sent
run_boards_in_order-requires-clause-sent g c κs within =
    rw c.in_ok-jobs.ensures.jobs
    (All-weaker HasRoom (λ (p : BoardJob). p.board.posts ≡ []) (λ p has. has.quiet) _
    (all_have_room c.in_ok-boss.boss.mail c.args.from.0 c.args.q c.requires.within c.args.boards.now
    c.requires.standing))

pub run_boards_in_order-requires-clause-posts : goal.run_boards_in_order-requires-clause-posts
run_boards_in_order-requires-clause-posts g c κs within =
    rw c.in_ok-jobs.ensures.jobs
    (All-weaker HasRoom (λ (p : BoardJob). p.board.view.numbers.posted + left p.grant < 2 ^ 64) (λ p has. has.posts) _
    (all_have_room c.in_ok-boss.boss.mail c.args.from.0 c.args.q c.requires.within c.args.boards.now
    c.requires.standing))

pub run_boards_in_order-requires-clause-entries : goal.run_boards_in_order-requires-clause-entries
run_boards_in_order-requires-clause-entries g c κs within =
    rw c.in_ok-jobs.ensures.jobs
    (All-weaker HasRoom (λ (p : BoardJob). p.board.view.numbers.entered + left p.grant < 2 ^ 64) (λ p has. has.entries)
    _
    (all_have_room c.in_ok-boss.boss.mail c.args.from.0 c.args.q c.requires.within c.args.boards.now
    c.requires.standing))

pub take_all_back-requires-clause-count : goal.take_all_back-requires-clause-count
take_all_back-requires-clause-count g c =
    let boards = c.args.boards.now in
    let comes = come c.in_ok-boss.boss.mail c.args.from.0 (c.args.from.0 + c.args.q) boards
    (planned boards c.requires.plans) in
    ap length (c.in_ok-jobs-2.ensures ∙ ap (map ran) c.in_ok-jobs.ensures.jobs) ∙ comes.count
    ∙ sym (ap length c.in_ok-jobs.ensures.boards ∙ length-map boards away)

pub take_all_back-requires-clause-parts : goal.take_all_back-requires-clause-parts
take_all_back-requires-clause-parts g c =
    let boards = c.args.boards.now in
    let comes = come c.in_ok-boss.boss.mail c.args.from.0 (c.args.from.0 + c.args.q) boards
    (planned boards c.requires.plans) in
    c.requires.parts ∙ comes.parts
    ∙ sym
    (ap (map (λ (p : BoardJob). unused p.grant))
    (c.in_ok-jobs-2.ensures ∙ ap (map ran) c.in_ok-jobs.ensures.jobs))

pub take_all_back-requires-clause-quiet : goal.take_all_back-requires-clause-quiet
take_all_back-requires-clause-quiet g c =
    rw c.in_ok-jobs-2.ensures
    (All-map (λ (p : BoardJob). p.board.posts ≡ []) ran c.in_ok-jobs.jobs.items (λ k d below. refl))

pub returns-clause-source : goal.returns-clause-source
returns-clause-source g c =
    let boards = c.args.boards.now in
    let comes = come c.in_ok-boss.boss.mail c.args.from.0 (c.args.from.0 + c.args.q) boards
    (planned boards c.requires.plans) in
    let whole = c.in_ok-jobs-2.ensures ∙ ap (map ran) c.in_ok-jobs.ensures.jobs in
    let used : each_by its_grant c.args.source.now.handles c.in_ok-jobs-2.jobs.items
    ≡ map used_up c.args.source.now.handles =
    (λ k. each_by its_grant (c.requires.parts k) (whole k)) ∙ comes.grants ∙ sym (ap (map used_up) c.requires.parts) in
    rw used at c.in_ok-entries.ensures.source

pub returns-clause-boards : goal.returns-clause-boards
returns-clause-boards g c =
    let boards = c.args.boards.now in
    let comes = come c.in_ok-boss.boss.mail c.args.from.0 (c.args.from.0 + c.args.q) boards
    (planned boards c.requires.plans) in
    let whole = c.in_ok-jobs-2.ensures ∙ ap (map ran) c.in_ok-jobs.ensures.jobs in
    rw ((λ k. each_by put_back (c.in_ok-jobs.ensures.boards k) (whole k)) ∙ comes.back) at
    c.in_ok-entries.ensures.boards

pub take_all_back-requires-clause-mail : goal.take_all_back-requires-clause-mail
take_all_back-requires-clause-mail g c =
    let boards = c.args.boards.now in
    let comes = come c.in_ok-boss.boss.mail c.args.from.0 (c.args.from.0 + c.args.q) boards
    (planned boards c.requires.plans) in
    let whole = c.in_ok-jobs-2.ensures ∙ ap (map ran) c.in_ok-jobs.ensures.jobs in
    let IsOurs : BoardJob → Type 0 = λ (p : BoardJob). p.pass.mail ≡ c.in_ok-boss.boss.mail in
    subst (All IsOurs) (sym whole) (All-from_recursion IsOurs _ comes.mails)

pub drain-requires : goal.drain-requires
drain-requires g c =
    let boards = c.args.boards.now in
    let comes = come c.in_ok-boss.boss.mail c.args.from.0 (c.args.from.0 + c.args.q) boards
    (planned boards c.requires.plans) in
    let whole = c.in_ok-jobs-2.ensures ∙ ap (map ran) c.in_ok-jobs.ensures.jobs in
    let taken = taken_are c.in_ok-jobs-2.jobs.items c.in_ok-boss.ensures.taken c.in_ok-entries.ensures.posts in
    let count = ap (λ (b : Boss). b.count) c.in_ok-entries.ensures.posts ∙ c.in_ok-boss.ensures.count in
    omega (
      arith,
      ap length taken,
      length-map c.in_ok-jobs-2.jobs.items sent_of,
      ap length whole,
      comes.count,
      count,
      c.requires.few,
    )

pub returns-clause-posts : goal.returns-clause-posts
returns-clause-posts g c =
    let boards = c.args.boards.now in
    let comes = come c.in_ok-boss.boss.mail c.args.from.0 (c.args.from.0 + c.args.q) boards
    (planned boards c.requires.plans) in
    let whole = c.in_ok-jobs-2.ensures ∙ ap (map ran) c.in_ok-jobs.ensures.jobs in
    let taken = taken_are c.in_ok-jobs-2.jobs.items c.in_ok-boss.ensures.taken c.in_ok-entries.ensures.posts in
    c.arrival_laws.ensures.listing _ _ c.in_ok-sent.ensures.all c.in_ok-sent.ensures.keys
    ∙ ap (listing post_key) (ap (flat_map (λ (s : Sent). s.posts)) (taken ∙ ap (map sent_of) whole) ∙ comes.posts)

pub returns-clause-entries : goal.returns-clause-entries
returns-clause-entries g c =
    let boards = c.args.boards.now in
    let comes = come c.in_ok-boss.boss.mail c.args.from.0 (c.args.from.0 + c.args.q) boards
    (planned boards c.requires.plans) in
    rw (ap (flat_map (λ (p : BoardJob). p.board.entries))
    (c.in_ok-jobs-2.ensures ∙ ap (map ran) c.in_ok-jobs.ensures.jobs)
    ∙ comes.entries) at
    c.in_ok-entries.ensures.entries
