use Rattle.std.proofs.Common.{◌≡◌, ◌∙◌, ℕ, ◌+◌, List, ◌++◌, take, drop, sym, ap, arith, Option}
use Rattle.std.proofs.Common.{append_assoc, drop-drop, take-add}
use Rattle.std.proofs.lemmas.List.Elements.{filter_map-append}
use Rattle.dev_core.specs.declared.post.Post.{Post}
use Rattle.floor_core.specs.Job.{posts}
use Rattle.floor_tests.proofs.toy.ToyJob.turn.Goals as goal

-- the posts of some slots and of the next one
posts_more : (i : ℕ) (s : List (Option Post)) → posts (take (i + 1) s) ≡ posts (take i s) ++ posts (take 1 (drop i s))
posts_more i s =
    ap (λ l. posts l) (take-add i 1 s) ∙ filter_map-append (λ slot. slot) (take i s) (take 1 (drop i s))

-- the unsent posts after one slot more
more :
    (old mid new : List Post) (slots slots' : List (Option Post)) (i at at' : ℕ) →
    mid ≡ old ++ posts (take i (drop at slots)) → slots' ≡ slots → at' ≡ at + i →
    new ≡ mid ++ posts (take 1 (drop at' slots')) → new ≡ old ++ posts (take (i + 1) (drop at slots))
more old mid new slots slots' i at at' is same place step =
    let s : List (Option Post) = drop at slots in
    step ∙
    ((λ k. is k ++ posts (take 1 (drop (place k) (same k)))) ∙
    ((λ k. (old ++ posts (take i s)) ++ posts (take 1 (sym (drop-drop i at slots) k))) ∙
    (append_assoc old (posts (take i s)) (posts (take 1 (drop i s))) ∙
    ap (λ (l : List Post). old ++ l) (sym (posts_more i s)))))

pub loop-i-preserved : goal.loop-i-preserved
loop-i-preserved c =
    let before = c.loop-i.invariant in
    let slot = c.in-Ok.ensures in
    record {
      at = omega (arith, before.at, slot.at);
      room = before.room;
      slots = slot.slots ∙ before.slots;
      sent = (λ k. (slot.sent k).items) ∙ before.sent;
      unsent =
          more _ _ _ _ _ _ _ _ before.unsent (λ k. (before.slots k).items) before.at slot.unsent;
    }
