-- What is written is no part of what holds of the laboratory.
use Rattle.std.proofs.Common.{ℕ, List, take, Result, Ok, Err, OnOk, arith}
use Rattle.std.specs.Prelude.{OnErr}
use Rattle.std.proofs.lemmas.Result.{on_ok_weaker, on_err_weaker}
use Rattle.board.specs.Changes.{with_bytes}
use Rattle.lab_state.specs.One.{with_view}
use Rattle.lab_state.proofs.SoundLemmas.{planned_at, sound-kept, seen_set}
use Rattle.lab_state.proofs.ChangeLemmas.{bytes-leave}
use Rattle.lab_state.proofs.lab.Lab.copy_in.Goals as goal

either : {T E P Q C : Type 0} (r : Result T E) → OnOk r P → OnErr r Q → (P → C) → (Q → C) → C
either (Ok x) p q first second = first p
either (Err e) p q first second = second q

pub index_mut-requires : goal.index_mut-requires
index_mut-requires g c = omega (arith, planned_at c.args.b.0 c.self.view_is c.requires.has_plan)

pub invariant_of-self : goal.invariant_of-self
invariant_of-self g c h =
    let kept = λ (bytes : List ℕ). sound-kept c.args.b.0 c.index_mut.ensures.value (c.self.invariant h)
    (λ v. with_bytes v c.args.at bytes) (bytes-leave c.args.at bytes) in
    either c.copy_in.result c.copy_in.ensures.ok c.copy_in.ensures.err (λ made. rw made (kept c.args.bytes.now))
    (λ made. rw made.1.1 (kept (take made.0 c.args.bytes.now)))

pub returns-clause-ok : goal.returns-clause-ok
returns-clause-ok g c =
    on_ok_weaker c.copy_in.result
    (seen_set (with_view (λ v. with_bytes v c.args.at c.args.bytes.now)) c.args.b.0 c.self.view_is
    c.index_mut.ensures.value)
    c.copy_in.ensures.ok

pub returns-clause-err : goal.returns-clause-err
returns-clause-err g c =
    on_err_weaker c.copy_in.result
    (λ made. (
      made.0,
      (
        made.1.0,
        seen_set (with_view (λ v. with_bytes v c.args.at (take made.0 c.args.bytes.now))) c.args.b.0 c.self.view_is
            c.index_mut.ensures.value made.1.1,
      ),
    ))
    c.copy_in.ensures.err
