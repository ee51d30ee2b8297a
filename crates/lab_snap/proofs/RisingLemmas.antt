-- Posts rise where each is before the next.
use Rattle.std.proofs.Common.{◌≡◌, ◌∙◌, ℕ, zero, suc, ◌+◌, ◌-◌, ◌≤◌, ◌<◌, true, ◌&&◌, List, [], ◌∷◌}
use Rattle.std.proofs.Common.{length, get_or, drop, refl, sym, ap, subst, arith}
use Rattle.std.proofs.lemmas.List.{drop_more, get_or_default}
use Rattle.std.specs.List.{list_all}
use Rattle.std.proofs.lemmas.Bool.Decides.{nat_tests}
use Rattle.lab_num.specs.declared.key.Key.{Key}
use Rattle.lab_num.proofs.ListLemmas.{implied}
use Rattle.dev_core.specs.declared.post.Post.{Post}
use Rattle.lab_snap.specs.Rising.{is_before, rise}
use Rattle.lab_snap.specs.Inner.PageTests.{all_weaker}

before_trans : (a b c : Key) → is_before a b ≡ true → is_before b c ≡ true → is_before a c ≡ true
before_trans a b c first second = grind (arith, nat_tests)

-- it is enough to compare each post with the next
rise_two : (a b : Post) (posts : List Post) → rise (a ∷ b ∷ posts) ≡ (is_before a.key b.key && rise (b ∷ posts))
rise_two a b posts =
    implied (is_before a.key b.key) (list_all (λ post. is_before a.key post.key) posts)
    (list_all (λ post. is_before b.key post.key) posts) (rise posts)
    (λ first above. all_weaker (λ post. is_before b.key post.key) (λ post. is_before a.key post.key)
    (λ post is. before_trans a.key b.key post.key first is) posts above)

rise_step : (posts : List Post) (n i : ℕ) (d : Post) → n + 1 ≡ i → i < length posts →
    rise (drop n posts) ≡ (is_before (get_or posts n d).key (get_or posts i d).key && rise (drop i posts))
rise_step posts n i d next within =
    let second : drop i posts ≡ get_or posts i d ∷ drop (i + 1) posts = drop_more posts i d within in
    let first : drop n posts ≡ get_or posts n d ∷ drop i posts =
    subst (λ (k : ℕ). drop n posts ≡ get_or posts n d ∷ drop k posts) next (drop_more posts n d (omega arith)) in
    rw (first, second) (rise_two (get_or posts n d) (get_or posts i d) (drop (i + 1) posts))

-- the next two posts are compared
rise_here : (posts : List Post) (i : ℕ) (d e : Post) → 1 ≤ i → i < length posts →
    rise posts ≡ rise (drop (i - 1) posts) →
    rise posts ≡ (is_before (get_or posts (i - 1) d).key (get_or posts i e).key && rise (drop i posts))
rise_here posts i d e from within so_far =
    let same : get_or posts i e ≡ get_or posts i d = get_or_default posts i e d within in
    rw same (so_far ∙ rise_step posts (i - 1) i d (omega arith) within)

pub rise_past : (posts : List Post) (i : ℕ) (d e : Post) → 1 ≤ i → i < length posts →
    is_before (get_or posts (i - 1) d).key (get_or posts i e).key ≡ true →
    rise posts ≡ rise (drop (i - 1) posts) → rise posts ≡ rise (drop (i + 1 - 1) posts)
rise_past posts i d e from within before so_far =
    let back : i + 1 - 1 ≡ i = omega arith in
    rw back (rise_here posts i d e from within so_far ∙ ap (λ b. b && rise (drop i posts)) before)

rise_end : (posts : List Post) (n : ℕ) → length posts ≤ n + 1 → rise (drop n posts) ≡ true
rise_end [] zero past = refl
rise_end [] (suc n) past = refl
rise_end (a ∷ []) zero past = refl
rise_end (a ∷ b ∷ posts) zero past = absurd (omega arith)
rise_end (a ∷ posts) (suc n) past = rise_end posts n (omega arith)

pub rise_all : (posts : List Post) (i : ℕ) → length posts ≤ i → rise posts ≡ rise (drop (i - 1) posts) →
    true ≡ rise posts
rise_all posts i past so_far = sym (so_far ∙ rise_end posts (i - 1) (omega arith))
