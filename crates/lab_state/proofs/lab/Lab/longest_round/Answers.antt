-- Where no board stands and nothing waits, rounds of any length come to the run.
use Rattle.std.proofs.Common.{◌≡◌, length, refl, arith}
use Rattle.std.proofs.lemmas.Bool.Decides.{nat_tests}
use Rattle.std.proofs.lemmas.List.{nil_from_length}
use Rattle.lab_state.specs.Lab.{Lab}
use Rattle.lab_state.specs.Run.{run_by}
use Rattle.lab_state.proofs.EmptyLemmas.{empty-run_by_any}
use Rattle.lab_state.proofs.lab.Lab.longest_round.Goals as goal

pub returns-then-is_empty-2-clause-same : goal.returns-then-is_empty-2-clause-same
returns-then-is_empty-2-clause-same g c =
    let lab : Lab = record {
      boards = c.self.inside.boards.items;
      hubs = c.self.inside.hubs;
      pending = c.self.inside.pending.items;
      now = c.self.inside.source.end;
      quantum = c.self.inside.quantum;
    } in
    let none : length lab.boards ≡ 0 = grind (arith, nat_tests, c.if-is_empty.ensures {u = tt}) in
    let nothing : length lab.pending ≡ 0 = grind (arith, nat_tests, c.if-is_empty-2.ensures {u = tt}) in
    rw (← c.self.view_is)
    (λ d. empty-run_by_any lab 10000000000 d (nil_from_length lab.boards none) (nil_from_length lab.pending nothing))

pub returns-clause-same : goal.returns-clause-same
unfolding run_by
returns-clause-same g c = rw (← c.self.view_is) (λ d. refl)
