use Rattle.std.proofs.Common.{rules, ◌≡◌, inl, inr, length, ℕ, ◌+◌, ◌/◌, List, [], ◌∷◌, Option, Some, sym, ap, ◌∙◌}
use Rattle.std.proofs.Common.{arith}
use Rattle.atomic_table.specs.Table.{rest}
use Rattle.floor_run.specs.Bench.{BenchModel, HandModel}
use Rattle.floor_run.specs.Inner.Hand.{carried}
use Rattle.floor_run.specs.Rule.{home_word}
use Rattle.floor_run.specs.Turns.{slots_left}
use Rattle.floor_run.proofs.StepLemmas.{report_from}
use Rattle.floor_run.proofs.TurnLemmas.{counts, ends, next}
use Rattle.floor_run.proofs.bench.Bench.report.Goals as goal
use Rattle.floor_run.proofs.bench.Bench.report.Goals.{then-left-eq0, else-left-eq0}

pub store-requires : goal.store-requires
store-requires g c =
    let v = c.hand.inside.seat.me.0 in
    let k = c.requires.job in
    let n = ap (λ (b : BenchModel g.row.J.Denot). length b.starts) c.self.view_is in
    let starts = ap (λ (h : HandModel g.row.J.Denot). h.sees.starts) c.hand.view_is ∙ c.requires.hand.1 in
    let m = ap (length {A = g.row.J.Denot}) starts in
    let held : v.held ≡ Some k.0 = ap (λ (h : HandModel g.row.J.Denot). h.sees.held) c.hand.view_is ∙ k.1 in
    let index : ℕ = c.from-index.result in
    let is : index ≡ c.hand.inside.board.0 = c.from-index.ensures in
    let near = c.hand.invariant.0.inside k.0 held in
    let told = c.exchange.ensures in
    let reports = c.hand.invariant.0.reports_is k.0 held in
    let laws = c.turns_add_up.ensures in
    let job = c.args.job in
    let nothing : rest c.hand.inside.seat.me.1 ≡ [] = ap rest (c.hand.invariant.1 ∙ ap (carried v) held) in
    let l : c.left.result ≡ slots_left g.J.Job.meaning job = c.left.ensures in
    let word : ℕ = c.if-left-eq0.word in
    let stored : word ≡ home_word (slots_left g.J.Job.meaning) (v.found / 4 + 1) job =
    counts g.J.Job.meaning g.J.Job.sent g.J.Job.state_after job v.found c.hand.inside.reports word reports.0
    (elim c.if-left-eq0.branch [
      | then-left-eq0 w ↦ inl (sym l ∙ w.if-left-eq0.true, w.word-is)
      | else-left-eq0 w ↦ inr ((λ z. w.if-left-eq0.false (l ∙ z)), w.word-is)
    ]) in (
      search rules,
      omega (arith, c.self.invariant.0),
      report_from _ _ _ _ _ _ v _ _ job k.0
          (told.3 ∙ ap (λ (r : List (ℕ × Option g.row.J.Denot)). (v, (index, Some job) ∷ r)) nothing)
          c.hand.invariant.0.live held (c.hand.invariant.0.board_is ∙ sym is) stored
          (λ start has stands. let after =
          next g.J.Job.meaning g.J.Job.sent g.J.Job.state_after laws.turns laws.posts start k.0 job (v.found / 4)
          stands k.2 in (
            after,
            ends g.J.Job.meaning g.J.Job.sent g.J.Job.state_after start job (v.found / 4 + 1) word stored after,
          )),
    )
