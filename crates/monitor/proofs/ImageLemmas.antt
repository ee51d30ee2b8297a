-- Images that commands load.
use Rattle.std.proofs.Common.{◌≡◌, ◌∙◌, ℕ, zero, suc, ◌+◌, ◌<◌, ◌≤◌, ◌%◌, ◌^◌, ◌==◌, ◌&&◌, nat_lt, nat_le}
use Rattle.std.proofs.Common.{Bool, true, false, List, [], ◌∷◌}
use Rattle.std.proofs.Common.{◌++◌, length, take, get_or, replicate, Option, None, Some, Ok}
use Rattle.std.proofs.Common.{refl, sym, ap}
use Rattle.std.proofs.Common.{append-nil, subst, arith}
use Rattle.std.specs.Prelude.{IsSome}
use Rattle.std.specs.List.{fold, list_all, range_with_len}
use Rattle.std.specs.Option.{ForSome, option_map}
use Rattle.std.proofs.lemmas.Bool.{and_parts}
use Rattle.std.proofs.lemmas.Bool.Decides.{nat_tests}
use Rattle.std.proofs.lemmas.List.{length-replicate}
use Rattle.std.proofs.lemmas.List.Sums.{fold_more}
use Rattle.elf_load.specs.declared.image.Image.{Image}
use Rattle.elf_load.specs.declared.image.Part.{Part}
use Rattle.elf_load.specs.Map.{contents}
use Rattle.sys_bus.specs.Region.{target_of}
use Rattle.board.specs.Changes.{cleared, copied, holds_each, in_memory, is_memory, with_bytes}
use Rattle.board.specs.Space.{Space}
use Rattle.board.specs.View.{View}
use Rattle.board_space.proofs.CopyLemmas.{copied-append, plan-copied}
use Rattle.rv_hart.specs.Core.{alignment}
use Rattle.lab_state.specs.Board.{Board}
use Rattle.lab_num.specs.Change.{change_at}
use Rattle.lab_num.proofs.ListLemmas.{change_twice}
use Rattle.lab_state.specs.Lab.{Lab}
use Rattle.lab_state.specs.One.{changed, view_at, view_of, with_view}
use Rattle.lab_state.proofs.ChangeLemmas.{view_changed}
use Rattle.monitor.specs.Images.{holds_part, is_entry, load_image, size, unreserved, with_entry, with_part}
use Rattle.monitor.specs.Images.{with_parts}
use Rattle.monitor.specs.Inner.Ruling.{IsChanged, IsOnward}
use Rattle.monitor.specs.Step.{Running}

map_twice :
    {A : Type 0} (x : Option A) (f g h : A → A) → ((a : A) → g (f a) ≡ h a) →
    option_map g (option_map f x) ≡ option_map h x
map_twice None f g h same = refl
map_twice (Some a) f g h same = ap Some (same a)

-- a board that is changed twice
pub changed_twice :
    (lab : Lab) (b : ℕ) (f g h : View → View) → ((v : View) → g (f v) ≡ h v) →
    changed (changed lab b f) b g ≡ changed lab b h
changed_twice lab b f g h same =
    ap (λ boards. record lab { boards = boards })
    (change_twice lab.boards b (with_view f) (with_view g) (with_view h)
    (λ board. ap (λ view. record board { view = view }) (map_twice board.view f g h same)))

-- what stands under the number of a board that was changed
pub view_of_changed :
    (lab : Lab) (b : ℕ) (f : View → View) → view_of (changed lab b f) b ≡ option_map f (view_of lab b)
view_of_changed lab b f = view_changed lab.boards b f

-- a board that is changed to what it is
change_none : {A : Type 0} (xs : List A) (i : ℕ) (f : A → A) → ((x : A) → f x ≡ x) → change_at xs i f ≡ xs
change_none [] i f same = refl
change_none (x ∷ xs) zero f same = ap (λ y. y ∷ xs) (same x)
change_none (x ∷ xs) (suc i) f same = ap (λ ys. x ∷ ys) (change_none xs i f same)

map_none : {A : Type 0} (x : Option A) (f : A → A) → ((a : A) → f a ≡ a) → option_map f x ≡ x
map_none None f same = refl
map_none (Some a) f same = ap Some (same a)

pub unchanged :
    (b : ℕ) (f : View → View) (old : Running) → ((v : View) → f v ≡ v) → IsChanged b f old old
unchanged b f old same =
    ap (λ boards. record old { state = record old.state { lab = record old.state.lab { boards = boards } } })
    (sym (change_none old.state.lab.boards b (with_view f)
    (λ board. ap (λ view. record board { view = view }) (map_none board.view f same))))

-- a board is changed after a change
pub changed_more :
    (b : ℕ) (f g h : View → View) (old mid new : Running) → ((v : View) → g (f v) ≡ h v) →
    IsChanged b f old mid → IsChanged b g mid new → IsChanged b h old new
changed_more b f g h old mid new same first second =
    second
    ∙ ap (λ (r : Running). record r { state = record r.state { lab = changed r.state.lab b g } }) first
    ∙ ap (λ lab. record old { state = record old.state { lab = lab } }) (changed_twice old.state.lab b f g h same)

change_same :
    {A : Type 0} (xs : List A) (i : ℕ) (f g : A → A) → ((x : A) → f x ≡ g x) → change_at xs i f ≡ change_at xs i g
change_same [] i f g same = refl
change_same (x ∷ xs) zero f g same = ap (λ y. y ∷ xs) (same x)
change_same (x ∷ xs) (suc i) f g same = ap (λ ys. x ∷ ys) (change_same xs i f g same)

map_same : {A : Type 0} (x : Option A) (f g : A → A) → ((a : A) → f a ≡ g a) → option_map f x ≡ option_map g x
map_same None f g same = refl
map_same (Some a) f g same = ap Some (same a)

-- the same change in other words
pub changed_same :
    (b : ℕ) (f g : View → View) (old new : Running) → ((v : View) → f v ≡ g v) → IsChanged b f old new →
    IsChanged b g old new
changed_same b f g old new same is =
    is
    ∙ ap (λ boards. record old { state = record old.state { lab = record old.state.lab { boards = boards } } })
    (change_same old.state.lab.boards b (with_view f) (with_view g)
    (λ board. ap (λ view. record board { view = view }) (map_same board.view f g same)))

map_seen :
    {A : Type 0} (x : Option A) (f g : A → A) → ForSome x (λ a. f a ≡ g a) → option_map f x ≡ option_map g x
map_seen None f g same = refl
map_seen (Some a) f g same = ap Some (same a refl)

change_seen :
    (boards : List Board) (b : ℕ) (f g : View → View) → ForSome (view_at boards b) (λ v. f v ≡ g v) →
    change_at boards b (with_view f) ≡ change_at boards b (with_view g)
change_seen [] b f g same = refl
change_seen (board ∷ boards) zero f g same =
    ap (λ view. record board { view = view } ∷ boards) (map_seen board.view f g same)
change_seen (board ∷ boards) (suc b) f g same = ap (λ ys. board ∷ ys) (change_seen boards b f g same)

-- the same change, of what stands under the number of the board
pub changed_seen :
    (b : ℕ) (f g : View → View) (old new : Running) → ForSome (view_of old.state.lab b) (λ v. f v ≡ g v) →
    IsChanged b f old new → IsChanged b g old new
changed_seen b f g old new same is =
    is
    ∙ ap (λ boards. record old { state = record old.state { lab = record old.state.lab { boards = boards } } })
    (change_seen old.state.lab.boards b f g same)

some_map : {A : Type 0} (x : Option A) (f : A → A) → IsSome x → IsSome (option_map f x)
some_map None f is = is
some_map (Some a) f is = is

-- the board that was changed has its platform
pub some_changed :
    (lab new : Lab) (b : ℕ) (f : View → View) → new ≡ changed lab b f → IsSome (view_of lab b) →
    IsSome (view_of new b)
some_changed lab new b f is some = rw (is, view_of_changed lab b f) (some_map (view_of lab b) f some)

for_some_map :
    {A : Type 0} (x : Option A) (f : A → A) (P : A → Type 0) → ForSome x (λ a. P (f a)) → ForSome (option_map f x) P
for_some_map None f P each = λ a is. absurd (cc)
for_some_map (Some a) f P each = λ changed is. let same : f a ≡ changed = cc in subst P same (each a refl)

-- what holds of the board after a change
pub for_changed :
    (lab new : Lab) (b : ℕ) (f : View → View) (P : View → Type 0) → new ≡ changed lab b f →
    ForSome (view_of lab b) (λ v. P (f v)) → ForSome (view_of new b) P
for_changed lab new b f P is each =
    rw (is, view_of_changed lab b f) (for_some_map (view_of lab b) f P each)

-- a board goes on where it is
pub no_entry : (entry : Option ℕ) (v : View) → ((pc : ℕ) → entry ≡ Some pc → ⊥) → with_entry v entry ≡ v
no_entry None v none = refl
no_entry (Some pc) v none = absurd (none pc refl)

pub still_held :
    (s : Space) (from : ℕ) (bytes : List ℕ) (at count : ℕ) →
    holds_each (copied s from bytes) at count ≡ holds_each s at count
still_held s from bytes at count =
    ap (λ plan. list_all (λ a. is_memory (target_of plan.regions a 1)) (range_with_len at count))
    (plan-copied s from bytes)

-- a range of addresses in two pieces
pub held_pieces :
    (p : ℕ → Bool) (at m n : ℕ) → list_all p (range_with_len at (m + n)) ≡ true →
    (list_all p (range_with_len at m) ≡ true) × (list_all p (range_with_len (at + m) n) ≡ true)
held_pieces p at zero n all =
    let same : at + 0 ≡ at = omega arith in
    let none : 0 + n ≡ n = omega arith in
    (refl, rw same (subst (λ m. list_all p (range_with_len at m) ≡ true) none all))
held_pieces p at (suc m) n all =
    let longer : suc m + n ≡ suc (m + n) = omega arith in
    let both = and_parts (p at) (list_all p (range_with_len (at + 1) (m + n)))
    (subst (λ k. list_all p (range_with_len at k) ≡ true) longer all) in
    let rest = held_pieces p (at + 1) m n both.1 in
    let same : at + suc m ≡ at + 1 + m = omega arith in
    (rw (both.0, rest.0) refl, rw same rest.1)

-- a part that has its places: its bytes, and its zeros after them
pub part_pieces :
    (v : View) (part : Part) → holds_part v part ≡ true →
    (size part < 2 ^ 32) × (part.at + size part ≤ 2 ^ 32)
    × (holds_each v.space part.at (length part.bytes) ≡ true)
    × (holds_each v.space (part.at + length part.bytes) part.zeros ≡ true)
part_pieces v part is =
    let few = nat_lt (size part) (2 ^ 32) in
    let below = nat_le (part.at + size part) (2 ^ 32) in
    let both = and_parts (few && below) (holds_each v.space part.at (size part)) is in
    let numbers = and_parts few below both.0 in
    let pieces = held_pieces (in_memory v.space) part.at (length part.bytes) part.zeros both.1 in
    (grind (arith, nat_tests, numbers.0), grind (arith, nat_tests, numbers.1), pieces.0, pieces.1)

-- the addresses of a part that has its places are below 2^32
pub part_numbers :
    (view : Option View) (part : Part) → IsSome view → ForSome view (λ v. holds_part v part ≡ true) →
    (size part < 2 ^ 32) × (part.at + size part ≤ 2 ^ 32)
part_numbers None part some holds = cc some
part_numbers (Some v) part some holds = let pieces = part_pieces v part (holds v refl) in (pieces.0, pieces.1)

-- reservations that were ended twice
pub cleared_twice : (watch : List (Option ℕ)) → cleared (cleared watch) ≡ cleared watch
cleared_twice watch = ap (λ n. replicate n None) (length-replicate (length watch) None)

-- a part is its bytes with its zeros after them
pub part_of_pieces :
    (v : View) (part : Part) →
    with_bytes (with_bytes v part.at part.bytes) (part.at + length part.bytes) (replicate part.zeros 0)
    ≡ with_part v part
part_of_pieces v part = λ i. record v {
  watch = cleared_twice v.watch i;
  space = sym (copied-append v.space part.at part.bytes (replicate part.zeros 0)) i;
}

pub part_without_zeros :
    (v : View) (part : Part) → part.zeros ≡ 0 → with_bytes v part.at part.bytes ≡ with_part v part
part_without_zeros v part none =
    ap (with_bytes v part.at) (sym (append-nil part.bytes) ∙ ap (λ n. part.bytes ++ replicate n 0) (sym none))

-- a part is loaded after others
pub parts_more :
    (v : View) (parts : List Part) (i : ℕ) (part : Part) → i < length parts →
    with_part (with_parts v (take i parts)) (get_or parts i part) ≡ with_parts v (take (i + 1) parts)
parts_more v parts i part within = sym (fold_more with_part (unreserved v) parts i part within)

-- parts leave what holds a byte
pub part_still :
    (v : View) (part other : Part) → holds_part (with_part v part) other ≡ holds_part v other
part_still v part other =
    ap (λ held. nat_lt (size other) (2 ^ 32) && nat_le (other.at + size other) (2 ^ 32) && held)
    (still_held v.space part.at (contents part) other.at (size other))

each_still :
    (parts : List Part) (v : View) (other : Part) → holds_part (fold with_part v parts) other ≡ holds_part v other
each_still [] v other = refl
each_still (part ∷ parts) v other = each_still parts (with_part v part) other ∙ part_still v part other

pub parts_still :
    (parts : List Part) (v : View) (other : Part) → holds_part (with_parts v parts) other ≡ holds_part v other
parts_still parts v other = each_still parts (unreserved v) other

-- parts leave the plan, and so what may be an entry
plan_parts : (parts : List Part) (v : View) → (fold with_part v parts).space.plan ≡ v.space.plan
plan_parts [] v = refl
plan_parts (part ∷ parts) v =
    plan_parts parts (with_part v part) ∙ plan-copied v.space part.at (contents part)

pub entry_still :
    (parts : List Part) (v : View) (entry : Option ℕ) → is_entry (with_parts v parts) entry ≡ is_entry v entry
entry_still parts v None = refl
entry_still parts v (Some pc) =
    ap (λ plan. pc % alignment plan.letters == 0) (plan_parts parts (unreserved v))

-- an image that has its places was loaded
pub image_rules :
    (old new : Running) (b : ℕ) (view : View) (image : Image) (text : List ℕ) → old.spent ≡ false →
    (list_all (holds_part view) image.parts && is_entry view image.entry) ≡ true →
    IsChanged b (λ v. with_entry (with_parts v image.parts) image.entry) old new → text ≡ [] →
    (load_image old.state (record { number = b; view = view }) image ≡ Ok (record { text = text; state = new.state }))
    × IsOnward old new
image_rules old new b view image text unspent passes same none =
    rw (same, none, passes) (refl, record { workers = refl; spent = unspent; ended = refl; flow = refl; kept = refl })
