use Rattle.std.proofs.Common.{rules, ◌≡◌, ◌+◌, ◌<◌, ℕ, List, Bool, Option, length, sym, ap, ◌∙◌, arith}
use lib.ListN.{get_elem?}
use Rattle.std.specs.Slots.{slots_items, slots_len, slots_filled, slots_counts}
use Rattle.floor_run.proofs.CloseLemmas.{takes_more, filled_next, emptied_next}
use Rattle.floor_run.proofs.closing.jobs_of.Goals as goal

pub loop-i-preserved : goal.loop-i-preserved
loop-i-preserved g c =
    let v = c.loop-i.invariant in
    let took = c.take-job.ensures.others in
    let i : ℕ = c.loop-i.i in
    let j = c.loop-i-test.true in
    let n = c.slot_count-i-end.ensures in
    let counts = slots_counts c.loop-i.closed.slots in
    let old : List Bool = slots_filled c.loop-i.closed.slots in
    let words : List ℕ = slots_items c.args.closed.words in
    let same_words : slots_items c.loop-i.closed.words ≡ words = ap slots_items v.words_stay in
    let near : i < length old = omega (arith, counts.1, v.count_stays) in record {
      so_far = search (rules, arith);
      are =
          takes_more words (slots_items c.args.closed.slots) i c.word-word.result c.loop-i.jobs.items
          c.push_reserved.new.self.items c.take-job.result c.keep.result v.so_far v.are
          (ap (λ (l : List (Option g.row.J.Denot)). get_elem? l i) (sym v.items_stay) ∙ c.take-job.ensures.value)
          (ap (λ (l : List ℕ). get_elem? l (i + 1)) (sym same_words) ∙ c.word-word.ensures) c.keep.ensures
          c.push_reserved.ensures.items;
      filled =
          λ k low high. filled_next old (slots_filled c.take-job.new.self.slots) i
          (slots_len c.loop-i.closed.slots) took.1 v.filled k low (omega (arith, took.2));
      emptied = emptied_next old (slots_filled c.take-job.new.self.slots) i near took.1 v.emptied;
      items_stay = took.0 ∙ v.items_stay;
      words_stay = took.3 ∙ v.words_stay;
      count_stays = took.2 ∙ v.count_stays;
      room = c.push_reserved.ensures.capacity ∙ v.room;
    }
