-- A run is its rounds one after another.
use Rattle.std.proofs.Common.{◌≡◌, ◌∙◌, sym, ap, ◌+◌, fold, arith}
use Rattle.lab_state.specs.Round.{Rounded, round}
use Rattle.lab_state.specs.Run.{go_on, lengths, run, run_by}
use Rattle.lab_state.proofs.RunLemmas.{none_left, after_pause, round_time, one_round_more}
use Rattle.lab_state.proofs.lab.Lab.rounds.Goals as goal
use Rattle.lab_state.proofs.lab.Lab.rounds.Goals.{then-rounds-test+else-is_none, else-rounds-test}

pub rounds-init : goal.rounds-init
unfolding run_by
rounds-init g c = record {
  unspent = c.requires.unspent;
  plans = c.requires.plans;
  within = c.requires.within;
  come = rw c.new-lines.ensures.items (c.longest_round-longest.ensures.same c.args.d);
}

pub rounds-preserved : goal.rounds-preserved
rounds-preserved g c =
    let made = c.in_ok-paused.ensures in
    let now : c.round_onto.new.self.lab.now ≡ c.rounds.self.lab.now + c.min-q.result =
    ap (λ s. s.lab.now) made.lab ∙ round_time c.rounds.self.lab c.min-q.result in
    let before : Rounded = record { lab = c.rounds.self.lab; items = c.rounds.lines.items; paused = c.rounds.paused } in
    record {
      unspent = ap (λ s. s.spent) made.lab;
      plans = made.plans;
      within = omega (arith, now, c.rounds.invariant.within, c.min-q.ensures);
      come =
          one_round_more c.longest_round-longest.result c.rounds.left before c.longest_round-longest.ensures.some
          c.rounds-test.true (c.if-is_none.ensures {u = tt}) c.min-q.ensures
          (λ i. record { lab = (made.lab i).lab; items = made.lines i; paused = made.paused i })
          ∙ c.rounds.invariant.come;
    }

pub returns : goal.returns
returns g c =
    let q = c.longest_round-longest.result in
    let end : Rounded = record { lab = c.rounds.self.lab; items = c.rounds.lines.items; paused = c.rounds.paused } in
    let is : end ≡ run c.args.self.now.lab c.args.d =
    elim c.rounds-test.branch [
      | then-rounds-test+else-is_none w ↦
          sym (after_pause round end (lengths q c.rounds.left) (w.if-is_none.ensures {u = tt}))
          ∙ c.rounds.invariant.come
      | else-rounds-test w ↦
          let zero : c.rounds.left ≡ 0 = omega (arith, w.rounds-test.false) in
          sym (ap (fold (go_on round) end) (ap (lengths q) zero ∙ none_left q c.longest_round-longest.ensures.some))
          ∙ c.rounds.invariant.come
    ] in
    record {
      lab = λ i. record { lab = (is i).lab; spent = c.rounds.invariant.unspent i };
      lines = c.of.ensures ∙ ap (λ r. r.items) is;
      paused = ap (λ r. r.paused) is;
      err = tt;
    }
