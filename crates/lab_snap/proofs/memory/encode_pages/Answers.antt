use Rattle.std.proofs.Common.{◌≡◌, ◌≤◌, ◌++◌, List, ℕ, ◌+◌, ◌*◌, ap, sym, ◌∙◌, append_assoc, length, arith}
use Rattle.std.specs.List.{flat_map}
use Rattle.std.proofs.lemmas.List.{append-nil, take_all}
use Rattle.page_ram.specs.Pages.{page_of}
use Rattle.lab_snap.specs.Page.{page_form}
use Rattle.lab_snap.specs.Inner.Pages.{spell_used}
use Rattle.lab_snap.proofs.PageLoops.{bytes_more, left, left_spelled, left_none}
use Rattle.lab_snap.proofs.memory.encode_pages.Goals as goal

pub loop-k-preserved : goal.loop-k-preserved
loop-k-preserved c =
    let memory : List ℕ = c.args.memory.now in
    let rest : List ℕ = flat_map (page_form 4096).spell (left 4096 c.args.pages (c.loop-k.k + 1) memory) in
    let page : List ℕ = spell_used 4096 c.loop-k.k (page_of memory c.loop-k.k) in
    let step : flat_map (page_form 4096).spell (left 4096 c.args.pages c.loop-k.k memory) ≡ page ++ rest =
    left_spelled 4096 _ _ _ c.loop-k-test.true in
    record {
      bytes = bytes_more 4096 c.loop-k.k memory c.loop-k.invariant.bytes c.in_ok-encode_used.ensures.bytes;
      spelled = ap (λ (l : List ℕ). l ++ rest) c.in_ok-encode_used.ensures.spelled.parts
          ∙ append_assoc c.loop-k.out.items page rest
          ∙ ap (λ (l : List ℕ). c.loop-k.out.items ++ l) (sym step)
          ∙ c.loop-k.invariant.spelled;
    }

pub returns-clause-spelled : goal.returns-clause-spelled
returns-clause-spelled c =
    let none = left_none 4096 c.args.pages c.loop-k.k c.args.memory.now c.loop-k-test.false in
    let h = rw (none, append-nil c.loop-k.out.items) at c.loop-k.invariant.spelled in
    record { parts = h }

pub returns-clause-bytes : goal.returns-clause-bytes
returns-clause-bytes c =
    let all : length c.args.memory.now ≤ 4096 * c.loop-k.k = omega (arith, c.requires, c.loop-k-test.false) in
    rw (take_all (4096 * c.loop-k.k) c.args.memory.now all) at c.loop-k.invariant.bytes
