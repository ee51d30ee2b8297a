use Rattle.std.proofs.Common.{◌∙◌, ap, length}
use Rattle.board_space.proofs.FitLemmas.{fit_memory}
use Rattle.board_space.proofs.LineLemmas.{right_memories}
use Rattle.board_space.proofs.MemoryLemmas.{put_on_ok, same_on_err}
use Rattle.page_ram.specs.Bytes.{put_value}
use Rattle.board_space.proofs.space.Space.store_memory.Goals as goal

pub invariant_of-self : goal.invariant_of-self
invariant_of-self g c = (
  c.self.invariant.0,
  fit_memory _ c.from.result c.store.new.self _ c.self.invariant.1
      (c.store.ensures.size ∙ ap length c.index_mut.ensures.value),
  c.self.invariant.2,
  right_memories _ _ _ c.self.invariant.3,
)

pub returns-clause-ok : goal.returns-clause-ok
returns-clause-ok g c =
    let there = rw (← c.self.view_is) at c.requires.part in
    rw (← c.self.view_is)
    (put_on_ok _ c.args.part c.from.result _ _ _ (λ bytes. put_value bytes c.args.at c.args.width c.args.value) _ there
    c.from.ensures c.index_mut.ensures.value c.store.ensures.ok)

pub returns-clause-err : goal.returns-clause-err
returns-clause-err g c =
    rw (← c.self.view_is)
    (same_on_err _ c.from.result _ _ _ _ c.index_mut.ensures.value c.store.ensures.err)
