use Rattle.std.proofs.Common.{◌≡◌, ℕ, ◌<◌, false, length, get_or, vec_capacity}
use Rattle.std.specs.Slots.{slots_items, slots_filled, slots_len}
use Rattle.std.specs.Slots.Ownership.{Filled}
use Rattle.floor_run.specs.Inner.Close.{Takes}
use Rattle.floor_run.proofs.closing.jobs_of.Given as goal

abbrev pub invariant-loop-i : goal.invariant-loop-i
invariant-loop-i g l = record {
  so_far : length l.jobs.items ≡ l.i;
  are : Takes (slots_items l.initial.closed.words) (slots_items l.initial.closed.slots) l.i l.jobs.items;
  filled : Filled (slots_filled l.closed.slots) l.i (slots_len l.closed.slots);
  emptied : (k : ℕ) → k < l.i → get_or (slots_filled l.closed.slots) k false ≡ false;
  items_stay : slots_items l.closed.slots ≡ slots_items l.initial.closed.slots;
  words_stay : l.closed.words ≡ l.initial.closed.words;
  count_stays : slots_len l.closed.slots ≡ slots_len l.initial.closed.slots;
  room : vec_capacity l.jobs ≡ vec_capacity l.initial.jobs;
}
