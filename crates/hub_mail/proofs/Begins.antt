-- One more pass is split off.
use Rattle.std.proofs.Common.{◌≡◌, ◌∙◌, ℕ, ◌+◌, List, [], ◌∷◌, ◌++◌, sym, ap, arith}
use Rattle.std.proofs.lemmas.List.FromFn.{map-range_with_len_more}
use Rattle.hub_mail.specs.Boss.{Boss}
use Rattle.hub_mail.specs.Pass.{Pass, fresh, fresh_passes}

pub one_more_pass : (boss boss' : Boss) (passes passes' : List Pass) (pass : Pass) (n : ℕ) →
    boss.count ≡ n → boss.taken ≡ [] → passes ≡ fresh_passes boss.mail n →
    pass ≡ fresh boss.mail boss.count → boss' ≡ record boss { count = boss.count + 1 } →
    passes' ≡ passes ++ pass ∷ [] →
    (boss'.count ≡ n + 1) × (boss'.taken ≡ []) × (passes' ≡ fresh_passes boss'.mail (n + 1))
one_more_pass boss boss' passes passes' pass n count none so_far new more pushed = (
  ap (λ (b : Boss). b.count) more ∙ ap (λ k. k + 1) count,
  ap (λ (b : Boss). b.taken) more ∙ none,
  pushed ∙ (λ i. so_far i ++ (new ∙ ap (fresh boss.mail) count) i ∷ [])
      ∙ sym (map-range_with_len_more (fresh boss.mail) 0 n n (omega arith))
      ∙ ap (λ m. fresh_passes m (n + 1)) (sym (ap (λ (b : Boss). b.mail) more)),
)
