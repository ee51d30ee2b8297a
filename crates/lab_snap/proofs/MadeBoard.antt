-- A board that is made, and gets its memories one after another.
use Rattle.std.proofs.Common.{◌≡◌, ◌∙◌, ℕ, zero, suc, ◌<◌, ◌≤◌, List, [], ◌∷◌, ◌++◌, length, map}
use Rattle.std.proofs.Common.{get_or, set, drop, replicate, refl, sym, ap, subst, arith, Some, None}
use Rattle.std.specs.Prelude.{IsSome}
use Rattle.std.specs.Option.{ForSome}
use Rattle.std.proofs.lemmas.Bool.Decides.{nat_tests}
use Rattle.std.proofs.lemmas.List.{get_or-map, length-map}
use Rattle.std.proofs.lemmas.List.{length-replicate}
use Rattle.lab_num.specs.Change.{change_at}
use Rattle.lab_num.proofs.ListLemmas.{change_twice}
use Rattle.page_ram.specs.Bytes.{zeros}
use Rattle.board.specs.Changes.{cleared, with_memory_in}
use Rattle.board.specs.New.{new_board}
use Rattle.board.specs.Space.{memory_at}
use Rattle.board.specs.View.{View}
use Rattle.sys_bus.specs.declared.plan.BoardPlan.{BoardPlan}
use Rattle.sys_bus.specs.Plan.{IsValid}
use Rattle.lab_state.specs.Board.{Board}
use Rattle.lab_state.specs.Lab.{Lab, Seen}
use Rattle.lab_state.specs.One.{changed, fitted, view_at, view_of, with_view}
use Rattle.lab_snap.specs.Inner.Building.{with_memories}

-- ---- the last of a list

-- ---- a board that was made, and its memories

-- its first memories are these, and the others have 0
abbrev pub half_made : ℕ → BoardPlan → List (List ℕ) → View
half_made n plan memories =
    with_memories (new_board n plan) (memories ++ drop (length memories) (map zeros plan.memories))

-- what stands under the name of a board that got its plan
view_fitted : (boards : List Board) (b : ℕ) (v : View) → b < length boards →
    view_at (change_at boards b (λ board. record board { view = Some v })) b ≡ Some v
view_fitted [] b v below = absurd (omega arith)
view_fitted (board ∷ boards) zero v below = refl
view_fitted (board ∷ boards) (suc b) v below = view_fitted boards b v (omega arith)

changed_fitted : (lab : Lab) (b : ℕ) (v : View) (f : View → View) →
    changed (fitted lab b v) b f ≡ fitted lab b (f v)
changed_fitted lab b v f = ap (λ boards. record lab { boards = boards }) (change_twice lab.boards b
    (λ board. record board { view = Some v }) (with_view f) (λ board. record board { view = Some (f v) })
    (λ board. refl))

-- what stands there now
pub has_fitted : (seen : Seen) (b : ℕ) (v : View) {now : Seen} → now ≡ record seen { lab = fitted seen.lab b v } →
    b < length seen.lab.boards → IsSome (view_of now.lab b)
has_fitted seen b v is below = rw (is, view_fitted seen.lab.boards b v below) refl

pub for_fitted : (seen : Seen) (b : ℕ) (v : View) (P : View → Type 0) {now : Seen} →
    now ≡ record seen { lab = fitted seen.lab b v } → b < length seen.lab.boards → P v →
    ForSome (view_of now.lab b) P
for_fitted seen b v P is below holds =
    rw (is, view_fitted seen.lab.boards b v below) (λ w at. let same : v ≡ w = cc in subst P same holds)

module _ {A : Type 0} where
  get_next : (xs ys : List A) (d : A) → get_or (xs ++ drop (length xs) ys) (length xs) d ≡ get_or ys (length xs) d
  get_next [] ys d = refl
  get_next (x ∷ xs) [] d = get_past xs d
    where
      get_past : (xs : List A) (d : A) → get_or (xs ++ []) (length xs) d ≡ d
      get_past [] d = refl
      get_past (x ∷ xs) d = get_past xs d
  get_next (x ∷ xs) (y ∷ ys) d = get_next xs ys d

  set_next : (xs ys : List A) (x : A) → length xs < length ys →
      set (xs ++ drop (length xs) ys) (length xs) x ≡ (xs ++ x ∷ []) ++ drop (length (xs ++ x ∷ [])) ys
  set_next xs [] x below = absurd (omega arith)
  set_next [] (y ∷ ys) x below = refl
  set_next (z ∷ xs) (y ∷ ys) x below = ap (λ l. z ∷ l) (set_next xs ys x (omega arith))

  length_next : (xs ys : List A) → length xs ≤ length ys → length (xs ++ drop (length xs) ys) ≡ length ys
  length_next [] ys within = refl
  length_next (x ∷ xs) [] within = absurd (omega arith)
  length_next (x ∷ xs) (y ∷ ys) within = ap suc (length_next xs ys (omega arith))

-- processors that have reserved nothing stay so
none_reserved : (harts : ℕ) → cleared (replicate harts None) ≡ replicate harts None
none_reserved harts = ap (λ k. replicate k None) (length-replicate harts None)

module _ (n : ℕ) (plan : BoardPlan) (all memories : List (List ℕ)) (memory : List ℕ)
    (sizes : map length all ≡ plan.memories) (below : length memories < length all)
    (next : memory ≡ get_or all (length memories) memory) where
  abbrev blank : List (List ℕ)
  blank = map zeros plan.memories

  many : length all ≡ length blank
  many = sym (length-map all (λ (m : List ℕ). length m)) ∙ ap length sizes ∙ sym (length-map plan.memories zeros)

  pub next_below : length memories < length (half_made n plan memories).space.memories
  next_below =
      let same = length_next memories blank (omega (arith, below, many)) in
      omega (arith, below, many, same)

  pub next_size : length memory ≡ length (memory_at (half_made n plan memories).space (length memories))
  next_size =
      let i : ℕ = length memories in
      let within : i < length plan.memories = omega (arith, below, many, length-map plan.memories zeros) in
      let is : get_or blank i [] ≡ zeros (get_or plan.memories i 0) = get_or-map zeros plan.memories i 0 [] within in
      let size : get_or plan.memories i 0 ≡ length (get_or all i memory) =
      ap (λ l. get_or l i 0) (sym sizes) ∙ get_or-map (λ (m : List ℕ). length m) all i memory 0 below in
      sym (ap length (get_next memories blank [] ∙ is) ∙ length-replicate (get_or plan.memories i 0) 0 ∙ size
      ∙ ap length (sym next))

  pub next_made : with_memory_in (half_made n plan memories) (length memories) memory
      ≡ half_made n plan (memories ++ memory ∷ [])
  next_made =
      let more = set_next memories blank memory (omega (arith, below, many)) in
      let none = none_reserved (length plan.cpus) in
      let v : View = half_made n plan memories in
      λ i. record v { watch = none i; space = record v.space { memories = more i } }

-- a memory more is in place
pub one_more_memory : (seen : Seen) (b : ℕ) (plan : BoardPlan) (memories : List (List ℕ)) (memory : List ℕ)
    {now next : Seen} {part : ℕ} → part ≡ length memories →
    now ≡ record seen { lab = fitted seen.lab b (half_made b plan memories) } →
    next ≡ record now { lab = changed now.lab b (λ v. with_memory_in v part memory) } →
    with_memory_in (half_made b plan memories) (length memories) memory ≡ half_made b plan (memories ++ memory ∷ []) →
    next ≡ record seen { lab = fitted seen.lab b (half_made b plan (memories ++ memory ∷ [])) }
one_more_memory seen b plan memories memory {part = part} part_is so_far made more =
    made
    ∙ ap (λ (s : Seen). record s { lab = changed s.lab b (λ v. with_memory_in v part memory) }) so_far
    ∙ ap (λ (part : ℕ). record seen {
      lab = changed (fitted seen.lab b (half_made b plan memories)) b (λ v. with_memory_in v part memory);
    }) part_is
    ∙ ap (λ (lab : Lab). record seen { lab = lab })
    (changed_fitted seen.lab b (half_made b plan memories) (λ v. with_memory_in v (length memories) memory)
    ∙ ap (fitted seen.lab b) more)

-- a board has few memories
pub few_memories : (plan : BoardPlan) (memories : List (List ℕ)) → IsValid plan → map length memories ≡ plan.memories →
    length memories ≤ 8
few_memories plan memories valid sizes =
    let few : length plan.memories ≤ 8 = grind (arith, nat_tests, valid.few_memories) in
    omega (arith, few, ap length sizes, length-map memories (λ (m : List ℕ). length m))
