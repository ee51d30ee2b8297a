-- A board more in a generated laboratory.
use Rattle.std.proofs.Common.{◌≡◌, ◌∙◌, ℕ, ◌+◌, ◌<◌, ◌^◌, List, [], ◌∷◌, ◌++◌, length, map, codes}
use Rattle.std.proofs.Common.{Option, Some, None, slice_get, true, refl, sym, ap, subst, arith, zero-add}
use Rattle.std.specs.Prelude.{IsTrue, IsSome}
use Rattle.std.proofs.Common.{false, length-append}
use Rattle.std.specs.Fmt.{decimal}
use Rattle.std.specs.List.{range_with_len}
use Rattle.std.specs.Option.{option_map, ForSome}
use Rattle.std.proofs.lemmas.Bool.Decides.{nat_tests}
use Rattle.std.proofs.lemmas.List.FromFn.{length-map-range_with_len, map-range_with_len_more}
use Rattle.lab_num.specs.Name.{is_name}
use Rattle.dev_core.specs.declared.kind.Kind.TheVariants.{Uart}
use Rattle.board.specs.Changes.{holds_each, with_bytes, with_pc}
use Rattle.board.specs.New.{new_board, new_space}
use Rattle.board.specs.View.{View}
use Rattle.board_space.proofs.CopyLemmas.{plan-copied}
use Rattle.lab_state.specs.Board.{Board}
use Rattle.lab_num.specs.Change.{change_at}
use Rattle.lab_num.proofs.NameLemmas.{digits_are}
use Rattle.lab_num.proofs.ListLemmas.{change_last}
use Rattle.lab_state.specs.Lab.{Seen}
use Rattle.lab_state.specs.Names.{hub_named, kind_named}
use Rattle.lab_state.specs.One.{view_at, view_of, with_view, changed, connected, fitted, kind_at}
use Rattle.lab_state.proofs.ChangeLemmas.{view_changed}
use Rattle.lab_gen.specs.Firmware.{program}
use Rattle.lab_gen.specs.Generated.{board, generated, uart_of}
use Rattle.lab_gen.specs.Plan.{plan}
use Rattle.lab_gen.specs.Inner.Steps.{bare, IsWith}
use Rattle.lab_gen.proofs.Texts.{program_length}

-- ---- names

-- `m` and a number
pub board_name : (n : ℕ) → n < 2 ^ 64 → is_name (codes "m" ++ decimal n) ≡ true
board_name n small = rw (digits_are n small) (grind (arith, nat_tests))

-- ---- the last of a list

pub view_last : (xs : List Board) (x : Board) → view_at (xs ++ x ∷ []) (length xs) ≡ x.view
view_last [] x = refl
view_last (y ∷ ys) x = view_last ys x

-- ---- one board

still_some : (o : Option View) (f : View → View) → IsSome o → IsSome (option_map f o)
still_some (Some v) f is = refl
still_some None f is = absurd (cc)

pub changed_has :
    (boards : List Board) (b : ℕ) (f : View → View) → IsSome (view_at boards b) →
    IsSome (view_at (change_at boards b (with_view f)) b)
changed_has boards b f is = rw (view_changed boards b f) (still_some (view_at boards b) f is)

for_some : {A : Type 0} (a : A) (P : A → Type 0) → P a → ForSome (Some a) P
for_some a P holds = λ other is. let same : a ≡ other = cc in subst P same holds

for_map :
    (o : Option View) (f : View → View) (P : View → Type 0) → ForSome o (λ v. P (f v)) → ForSome (option_map f o) P
for_map (Some v) f P holds = for_some (f v) P (holds v refl)
for_map None f P holds = λ v is. absurd (cc)

-- what holds of a board that was changed
pub changed_for :
    (boards : List Board) (b : ℕ) (f : View → View) (P : View → Type 0) →
    ForSome (view_at boards b) (λ v. P (f v)) → ForSome (view_at (change_at boards b (with_view f)) b) P
changed_for boards b f P holds = rw (view_changed boards b f) (for_map (view_at boards b) f P holds)

-- ---- a board more

abbrev boards_of : ℕ → ℕ → List Board
boards_of seed n = map (board seed) (range_with_len 0 n)

-- it gets its plan, its program and its pc
abbrev equip : ℕ → Board → Board
equip n b = record b { view = Some (new_board n plan) }

abbrev load : ℕ → ℕ → View → View
load seed n v = with_bytes v 0x80000000 (program seed n)

abbrev begin : View → View
begin v = with_pc v 0 0x80000000

more_members :
    (n : ℕ) → map uart_of (range_with_len 0 n) ++ uart_of n ∷ [] ≡ map uart_of (range_with_len 0 (n + 1))
more_members n = sym (map-range_with_len_more uart_of 0 n n (zero-add n))

-- ---- the steps

-- the laboratory without the board has as many as its number says
pub count_is :
    (seed n : ℕ) (s : Seen) → s ≡ record { lab = generated seed n; spent = false } → length s.lab.boards ≡ n
count_is seed n s is = rw is (length-map-range_with_len (board seed) 0 n)

-- the new board is the last
pub last_exists :
    (seed n : ℕ) (more : Board) (s : Seen) → IsWith seed n more s → n < length s.lab.boards
last_exists seed n more s is =
    rw (is, length-append) (omega (arith, length-map-range_with_len (board seed) 0 n))

last_view : (seed n : ℕ) (more : Board) → view_at (boards_of seed n ++ more ∷ []) n ≡ more.view
last_view seed n more =
    ap (view_at (boards_of seed n ++ more ∷ [])) (sym (length-map-range_with_len (board seed) 0 n))
    ∙ view_last (boards_of seed n) more

-- the new board has no plan
pub last_bare : (seed n : ℕ) (s : Seen) → IsWith seed n (bare n) s → view_of s.lab n ≡ None
last_bare seed n s is = rw (is, last_view seed n (bare n)) refl

-- it gets its plan
pub fitted_last :
    (seed n : ℕ) (s s' : Seen) → IsWith seed n (bare n) s →
    s' ≡ record s { lab = fitted s.lab n (new_board n plan) } → IsWith seed n (equip n (bare n)) s'
fitted_last seed n s s' is so =
    rw (so, is)
    (ap (λ l. record { lab = record (generated seed n) { boards = l }; spent = false })
    (change_last (boards_of seed n) n (bare n) (equip n) (sym (length-map-range_with_len (board seed) 0 n))))

pub fitted_has : (seed n : ℕ) (s : Seen) → IsWith seed n (equip n (bare n)) s → IsSome (view_of s.lab n)
fitted_has seed n s is = rw (is, last_view seed n (equip n (bare n))) refl

pub fitted_processor :
    (seed n : ℕ) (s : Seen) → IsWith seed n (equip n (bare n)) s →
    ForSome (view_of s.lab n) (λ v. 0 < length v.cores)
fitted_processor seed n s is =
    rw (is, last_view seed n (equip n (bare n)))
    (for_some (new_board n plan) (λ v. 0 < length v.cores) (omega arith))

pub fitted_holds :
    (seed n : ℕ) (s : Seen) (bytes : List ℕ) → IsWith seed n (equip n (bare n)) s → bytes ≡ program seed n →
    ForSome (view_of s.lab n) (λ v. IsTrue (holds_each v.space 0x80000000 (length bytes)))
fitted_holds seed n s bytes is are =
    rw (is, are, last_view seed n (equip n (bare n)), program_length seed n)
    (for_some (new_board n plan) (λ v. holds_each v.space 0x80000000 92 ≡ true) refl)

-- it gets its program
pub loaded_last :
    (seed n : ℕ) (s s' : Seen) (bytes : List ℕ) → IsWith seed n (equip n (bare n)) s → bytes ≡ program seed n →
    s' ≡ record s {
      lab = changed (changed s.lab n (λ v. with_bytes v 0x80000000 bytes)) n (λ v. with_pc v 0 0x80000000);
    } →
    IsWith seed n (board seed n) s'
loaded_last seed n s s' bytes is are so =
    let few = sym (length-map-range_with_len (board seed) 0 n) in
    rw (so, is, are)
    (ap (λ l. record { lab = record (generated seed n) { boards = l }; spent = false })
    (ap (λ l. change_at l n (with_view begin))
    (change_last (boards_of seed n) n (equip n (bare n)) (with_view (load seed n)) few)
    ∙ change_last (boards_of seed n) n (with_view (load seed n) (equip n (bare n))) (with_view begin) few))

-- it has a UART then
pub last_has_uart :
    (seed n : ℕ) (s : Seen) → IsWith seed n (board seed n) s → kind_at s.lab.boards (uart_of n) ≡ Some Uart
last_has_uart seed n s is =
    rw (is, last_view seed n (board seed n))
    (ap (λ plan. slice_get plan.kinds 0) (plan-copied (new_space plan) 0x80000000 (program seed n)))

pub first_hub :
    (seed n : ℕ) (s : Seen) → IsWith seed n (board seed n) s → hub_named s.lab (codes "hub") ≡ Some 0
first_hub seed n s is = rw is refl

pub hub_of_uarts :
    (seed n : ℕ) (s : Seen) → IsWith seed n (board seed n) s → kind_named s.lab (codes "hub") ≡ Some Uart
hub_of_uarts seed n s is = rw is refl

-- which comes at the end of the hub
pub joined_last :
    (seed n : ℕ) (s s' : Seen) → IsWith seed n (board seed n) s →
    s' ≡ record s { lab = connected s.lab 0 (uart_of n) } →
    s' ≡ record { lab = generated seed (n + 1); spent = false }
joined_last seed n s s' is so =
    rw (so, is)
    (λ i. record {
      lab = record {
        boards = sym (map-range_with_len_more (board seed) 0 n n (zero-add n)) i;
        hubs = record { name = codes "hub"; kind = Uart; delay = 0; members = more_members n i } ∷ [];
        pending = [];
        now = 0;
        quantum = 100;
      };
      spent = false;
    })
