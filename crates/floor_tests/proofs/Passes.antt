-- The passes of a new mail, and posts numbered one after another.
use Rattle.std.proofs.Common.{◌≡◌, ◌∙◌, ℕ, ◌+◌, All, List, [], ◌∷◌, ◌++◌, length, Option, Some, None}
use Rattle.std.proofs.Common.{refl, sym, ap, subst, arith}
use Rattle.std.specs.List.{last_or, range_with_len}
use Rattle.std.proofs.lemmas.List.{length-append, length-map, same_from_push}
use Rattle.std.proofs.lemmas.List.Elements.{All-nil, All-push}
use Rattle.std.proofs.lemmas.List.FromFn.{length-range_with_len, map-range_with_len_more}
use Rattle.dev_core.specs.declared.post.Post.{Post}
use Rattle.hub_mail.specs.Pass.{MailId, Pass, fresh, fresh_passes}
use Rattle.hub_mail.specs.Posts.{IsAbove}

last_pushed : (before : Option Post) (posts : List Post) (post : Post) → last_or before (posts ++ post ∷ []) ≡ Some post
last_pushed before [] post = refl
last_pushed before (p ∷ ps) post = last_pushed (Some p) ps post

-- a pass that has posted one post more
pub one_posted : (old new : Pass) (post : Post) (n : ℕ) → new ≡ record old { posted = old.posted ++ post ∷ [] } →
    post.key.number.0 ≡ n → (new.mail ≡ old.mail) × (new.board ≡ old.board) × IsAbove (n + 1) new.posted
one_posted old new post n is number = (
  ap (λ (p : Pass). p.mail) is,
  ap (λ (p : Pass). p.board) is,
  rw (is, last_pushed None old.posted post) (omega (arith, number)),
)

-- the last of the passes of a new mail, and the others
pub last_pass : (mail : MailId) (passes others : List Pass) (pass : Pass) → passes ≡ others ++ pass ∷ [] →
    passes ≡ fresh_passes mail (length passes) →
    (others ≡ fresh_passes mail (length others)) × (pass ≡ fresh mail (length others))
last_pass mail passes others pass is are =
    let n = length others in
    let more : length passes ≡ n + 1 = ap length is ∙ length-append others (pass ∷ []) in
    let split : others ++ pass ∷ [] ≡ fresh_passes mail n ++ fresh mail n ∷ [] =
    sym is ∙ are ∙ ap (fresh_passes mail) more ∙ map-range_with_len_more (fresh mail) 0 n n (omega arith) in
    let same = same_from_push others (fresh_passes mail n) pass (fresh mail n) split in
    (same.0, same.1)

-- passes of one mail
abbrev pub AreOf : MailId → List Pass → Type 0
AreOf mail passes = All (λ p. p.mail ≡ mail) passes

pub none_ready : (mail : MailId) (passes ready : List Pass) (n : ℕ) → passes ≡ fresh_passes mail n → ready ≡ [] →
    (passes ≡ fresh_passes mail (length passes)) × AreOf mail ready × (length ready + length passes ≡ n)
none_ready mail passes ready n are none =
    let long : length passes ≡ n =
    ap length are ∙ length-map (range_with_len 0 n) (fresh mail) ∙ length-range_with_len 0 n in
    let empty : length ready ≡ 0 = ap length none in (
      are ∙ ap (fresh_passes mail) (sym long),
      subst (AreOf mail) (sym none) (All-nil (λ (p : Pass). p.mail ≡ mail)),
      omega (arith, empty, long),
    )

pub one_ready : (mail : MailId) (passes others ready ready' : List Pass) (pass pass' : Pass) (n : ℕ) →
    passes ≡ fresh_passes mail (length passes) → AreOf mail ready → length ready + length passes ≡ n →
    passes ≡ others ++ pass ∷ [] → pass'.mail ≡ pass.mail → ready' ≡ ready ++ pass' ∷ [] →
    (others ≡ fresh_passes mail (length others)) × AreOf mail ready' × (length ready' + length others ≡ n)
one_ready mail passes others ready ready' pass pass' n are of_mail long is same more =
    let last = last_pass mail passes others pass is are in
    let shorter : length passes ≡ length others + 1 = ap length is ∙ length-append others (pass ∷ []) in
    let longer : length ready' ≡ length ready + 1 = ap length more ∙ length-append ready (pass' ∷ []) in (
      last.0,
      subst (AreOf mail) (sym more)
          (All-push (λ (p : Pass). p.mail ≡ mail) ready pass' of_mail (same ∙ ap (λ (p : Pass). p.mail) last.1)),
      omega (arith, long, shorter, longer),
    )
