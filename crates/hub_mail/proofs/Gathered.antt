-- All posts are those of all passes, one pass after another.
use Rattle.std.proofs.Common.{◌≡◌, ◌∙◌, ℕ, suc, eqb, ◌==◌, if◌then◌else◌, false, List, [], ◌∷◌, ◌++◌}
use Rattle.std.proofs.Common.{refl, sym, ap, inl, inr, flat_map, eq-eqb, ne_eqb}
use Rattle.std.specs.List.{IsDistinct, AllByRecursion}
use Rattle.std.specs.List.Sorted.{IsPermutation}
use Rattle.std.proofs.lemmas.Bool.{cases_eq}
use Rattle.std.proofs.lemmas.List.{append-nil}
use Rattle.std.proofs.lemmas.List.Elements.{filter-append}
use Rattle.dev_core.specs.declared.post.Post.{Post}
use Rattle.hub_mail.specs.declared.view.Sent.{Sent}
use Rattle.hub_mail.specs.Posts.{of_board}
use Rattle.hub_mail.specs.Boss.{posted_by}
use Rattle.hub_mail.specs.Inner.Mailbox.{AreAll, boards}
use Rattle.hub_mail.proofs.Arrival.{same_members}
use Rattle.hub_mail.proofs.OfBoard.{board_of, of_same, of_other}
use Rattle.hub_mail.proofs.Places.{Everywhere}

absent : (board : ℕ) (taken : List Sent) → AllByRecursion (λ other. eqb board other ≡ false) (boards taken) →
    posted_by board taken ≡ []
absent board [] apart = refl
absent board (s ∷ ss) apart =
    ap (λ b. if b then s.posts else posted_by board ss) apart.0 ∙ absent board ss apart.1

joined : (all : List Post) (taken : List Sent) (board : ℕ) → IsDistinct eqb (boards taken) →
    Everywhere (λ k s. s.posts ≡ of_board s.board all) taken →
    of_board board (flat_map (λ s. s.posts) taken) ≡ posted_by board taken
unfolding IsDistinct
joined all [] board apart each = refl
joined all (s ∷ ss) board apart each =
    let mine : s.posts ≡ of_board s.board all = each 0 s refl in
    let rest = joined all ss board apart.1 (λ k t at. each (suc k) t at) in
    filter-append (λ p. board_of p == board) s.posts (flat_map (λ s. s.posts) ss)
    ∙ (λ i. of_board board (mine i) ++ rest i)
    ∙ elim (cases_eq board s.board) [
      | inl here ↦
          let none : posted_by board ss ≡ [] = ap (λ b. posted_by b ss) here ∙ absent s.board ss apart.0 in
          (λ i. of_board (here i) (of_board s.board all) ++ none i)
          ∙ append-nil (of_board s.board (of_board s.board all)) ∙ of_same s.board all ∙ sym mine
          ∙ sym (ap (λ b. if b then s.posts else posted_by board ss) (eq-eqb board s.board here))
      | inr away ↦
          ap (λ l. l ++ posted_by board ss) (of_other s.board board all (λ e. away (sym e)))
          ∙ sym (ap (λ b. if b then s.posts else posted_by board ss) (ne_eqb board s.board away))
    ]

pub all_posts : (taken : List Sent) (posts : List Post) → AreAll taken posts →
    IsPermutation posts (flat_map (λ s. s.posts) taken)
all_posts taken posts are =
    same_members posts (flat_map (λ s. s.posts) taken)
    (λ board. are.boards board ∙ sym (joined posts taken board are.apart are.each))
