-- What is the same in a run and its check at a line, and how their answers fit together.
use Rattle.std.proofs.Common.{◌≡◌, ◌∷◌, ◌∙◌, ◌⊎◌, ℕ, zero, suc, nat_lt, if◌then◌else◌, Bool, true}
use Rattle.std.proofs.Common.{false}
use Rattle.std.proofs.Common.{List, [], length, map, slice_get, Option, None, Some, Result, Ok, Err, refl, sym, ap}
use Rattle.std.proofs.Common.{inl, inr}
use Rattle.std.proofs.Common.{arith, le_refl}
use Rattle.std.specs.FinMap.{get}
use Rattle.std.specs.List.{position}
use Rattle.std.specs.Option.{ok_or, option_map}
use Rattle.std.specs.Prelude.{is_none, option_and_then}
use Rattle.std.specs.Str.{bytes_eq}
use Rattle.std.proofs.lemmas.List.{length-map}
use Rattle.lab_io.specs.Held.{Held}
use Rattle.lab_num.specs.declared.key.Member.{Member}
use Rattle.board.specs.View.{View}
use Rattle.lab_state.specs.Board.{Board}
use Rattle.lab_state.specs.Lab.{Lab}
use Rattle.lab_state.specs.Names.{board_named, is_taken}
use Rattle.lab_state.specs.One.{first_without, kind_at, view_at, view_of}
use Rattle.resc_vars.specs.declared.cause.ScriptCause.{ScriptCause}
use Rattle.resc_vars.specs.declared.cause.ScriptCause.TheVariants.{LabTime, NoBoard, Platform, Size}
use Rattle.monitor.specs.declared.fault.Cause.TheVariants.{Script}
use Rattle.monitor.specs.Answer.{Answer, Did, Done, answer_at, loads, refused, with_file}
use Rattle.monitor.specs.Refusal.{◌>>=◌, require}
use Rattle.monitor.specs.Selected.{Equipped, bare, equipped, equipped_as, if_board, selected}
use Rattle.monitor.specs.State.{State, LinePlace, bodies_of, joined, started}
use Rattle.monitor.specs.declared.setting.Setting.{Setting}
use Rattle.log_text.specs.declared.line.OpenLine.{OpenLine}
use Rattle.lab_top.specs.Request.{checking}
use Rattle.check_laws.specs.Checked.{IsCheckOf, IsFound}
use Rattle.check_laws.specs.Standing.{Equipment, Standing, equipment_of, standing}
use Rattle.check_laws.proofs.ListLemmas.{position_same}

-- ---- of boards that stand alike

view_seen : (boards : List Board) (b : ℕ) →
    option_map equipment_of (view_at boards b)
    ≡ option_and_then (λ (st : Standing). st.equipment) (slice_get (map standing boards) b)
view_seen [] b = refl
view_seen (board ∷ boards) zero = refl
view_seen (board ∷ boards) (suc b) = view_seen boards b

-- two boards in place of each other
abbrev pub AreAlike : View → View → Type 0
AreAlike v w = equipment_of w ≡ equipment_of v

-- ---- of answers

-- how a check answers a command that reads no file
abbrev pub FoundBy : Result Done ScriptCause → Result Done ScriptCause → Type 0
FoundBy (Ok one) (Ok two) = IsCheckOf one.state two.state
FoundBy (Ok one) (Err other) = ⊥
FoundBy (Err cause) two = (cause ≡ LabTime) ⊎ (two ≡ Err cause)

-- and any command: it reads the same, and answers as it should
abbrev pub DidFound : Did → Did → Type 0
DidFound one two = (two.names ≡ one.names) × IsFound one.answer two.answer

pub found_at : (place : LinePlace) (one two : Result Done ScriptCause) → FoundBy one two →
    IsFound (answer_at place one) (answer_at place two)
found_at place (Ok one) (Ok two) found = found
found_at place (Ok one) (Err other) found = absurd found
found_at place (Err cause) two (inl is) = inl (ap Script is)
found_at place (Err cause) two (inr is) = inr (ap (answer_at place) is)

pub then_on : {A : Type 0} (test : Result A ScriptCause) (f g : A → Result Done ScriptCause) →
    ((x : A) → FoundBy (f x) (g x)) → FoundBy (test >>= f) (test >>= g)
then_on (Ok x) f g next = next x
then_on (Err cause) f g next = inr refl

-- after a test that comes to the same in both
pub then_same : {A : Type 0} (one two : Result A ScriptCause) (f g : A → Result Done ScriptCause) → two ≡ one →
    ((x : A) → FoundBy (f x) (g x)) → FoundBy (one >>= f) (two >>= g)
then_same one two f g is next = rw is (then_on one f g next)

-- a run and its check that load the same snapshot
pub joined_alike : (s t : State) → IsCheckOf s t → (lab : Lab) (lines : List OpenLine) →
    IsCheckOf (joined (bodies_of s) lab lines) (joined (bodies_of t) lab lines)
joined_alike s t alike lab lines = record {
  dry = alike.dry;
  flow = alike.flow;
  selected = refl;
  boards = refl;
  hubs = refl;
  now = le_refl lab.now;
  until = alike.until;
}

-- a run and its check before the first line
pub begins_alike : (script text : List ℕ) (setting : Setting) →
    IsCheckOf (started script text setting) (started script text checking)
begins_alike script text setting = record {
  dry = refl;
  flow = refl;
  selected = refl;
  boards = refl;
  hubs = refl;
  now = le_refl 0;
  until = omega arith;
}

-- ---- of a run and its check

module _ (s t : State) (alike : IsCheckOf s t) where
  pub length_same : length t.lab.boards ≡ length s.lab.boards
  length_same =
      sym (length-map t.lab.boards standing) ∙ ap length alike.boards ∙ length-map s.lab.boards standing

  pub named_same : (name : List ℕ) → board_named t.lab name ≡ board_named s.lab name
  named_same name =
      let seen : (boards : List Board) → position (λ st. bytes_eq st.name name) (map standing boards)
      ≡ position (λ board. bytes_eq board.name name) boards =
      position_same standing (λ st. bytes_eq st.name name) (λ board. bytes_eq board.name name) (λ board. refl) in
      sym (seen t.lab.boards)
      ∙ ap (position (λ (st : Standing). bytes_eq st.name name)) alike.boards
      ∙ seen s.lab.boards

  pub taken_same : (name : List ℕ) → is_taken t.lab name ≡ is_taken s.lab name
  taken_same name = rw (named_same name, alike.hubs) refl

  views_same : (b : ℕ) → option_map equipment_of (view_of t.lab b) ≡ option_map equipment_of (view_of s.lab b)
  views_same b =
      view_seen t.lab.boards b
      ∙ ap (λ (all : List Standing). option_and_then (λ (st : Standing). st.equipment) (slice_get all b)) alike.boards
      ∙ sym (view_seen s.lab.boards b)

  none_seen : (view : Option View) → is_none (option_map equipment_of view) ≡ is_none view
  none_seen None = refl
  none_seen (Some v) = refl

  pub none_same : (b : ℕ) → is_none (view_of t.lab b) ≡ is_none (view_of s.lab b)
  none_same b =
      sym (none_seen (view_of t.lab b)) ∙ ap is_none (views_same b) ∙ none_seen (view_of s.lab b)

  without_seen : (boards : List Board) →
      position (λ (st : Standing). is_none st.equipment) (map standing boards) ≡ first_without boards
  without_seen =
      position_same standing (λ st. is_none st.equipment) (λ board. is_none board.view)
      (λ board. none_seen board.view)

  pub without_same : first_without t.lab.boards ≡ first_without s.lab.boards
  without_same =
      sym (without_seen t.lab.boards)
      ∙ ap (position (λ (st : Standing). is_none st.equipment)) alike.boards
      ∙ without_seen s.lab.boards

  kind_seen : (view : Option View) (dev : ℕ) →
      option_and_then (λ (v : View). slice_get v.space.plan.kinds dev) view
      ≡ option_and_then (λ (e : Equipment). slice_get e.plan.kinds dev) (option_map equipment_of view)
  kind_seen None dev = refl
  kind_seen (Some v) dev = refl

  pub kind_same : (m : Member) → kind_at t.lab.boards m ≡ kind_at s.lab.boards m
  kind_same m =
      kind_seen (view_of t.lab m.board.0) m.dev
      ∙ ap (option_and_then (λ (e : Equipment). slice_get e.plan.kinds m.dev)) (views_same m.board.0)
      ∙ sym (kind_seen (view_of s.lab m.board.0) m.dev)

  pub there_same : (b : Option ℕ) → option_and_then (if_board t.lab) b ≡ option_and_then (if_board s.lab) b
  there_same None = refl
  there_same (Some b) = rw length_same refl

  pub selected_same : selected t ≡ selected s
  selected_same = rw alike.selected (ap (λ b. ok_or b NoBoard) (there_same s.selected))

  bare_by : (test : Result ℕ ScriptCause) →
      (test >>= (λ b. require (is_none (view_of t.lab b)) Platform >>= (λ none. Ok b)))
      ≡ (test >>= (λ b. require (is_none (view_of s.lab b)) Platform >>= (λ none. Ok b)))
  bare_by (Ok b) = rw (none_same b) refl
  bare_by (Err cause) = refl

  pub bare_same : bare t ≡ bare s
  bare_same = rw selected_same (bare_by (selected s))

  -- what comes after the selected board, which has its platform
  module _ (f g : Equipped → Result Done ScriptCause)
      (next : (b : ℕ) (v w : View) → AreAlike v w →
      FoundBy (f (record { number = b; view = v })) (g (record { number = b; view = w }))) where
    with_views : (b : ℕ) (one two : Option View) → option_map equipment_of two ≡ option_map equipment_of one →
        FoundBy (equipped_as b one >>= f) (equipped_as b two >>= g)
    with_views b None None is = inr refl
    with_views b None (Some w) is = absurd (cc)
    with_views b (Some v) None is = absurd (cc)
    with_views b (Some v) (Some w) is = next b v w cc

    on_board : (test : Result ℕ ScriptCause) →
        FoundBy (test >>= (λ b. equipped_as b (view_of s.lab b)) >>= f)
        (test >>= (λ b. equipped_as b (view_of t.lab b)) >>= g)
    on_board (Ok b) = with_views b (view_of s.lab b) (view_of t.lab b) (views_same b)
    on_board (Err cause) = inr refl

    pub then_equipped : FoundBy (equipped s >>= f) (equipped t >>= g)
    then_equipped = rw selected_same (on_board (selected s))

  -- the same of a command that reads a file
  module _ (held : Held) (place : LinePlace) (path : List ℕ) (f g : Equipped → List ℕ → Answer)
      (next : (b : ℕ) (v w : View) (bytes : List ℕ) → AreAlike v w →
      IsFound (f (record { number = b; view = v }) bytes) (g (record { number = b; view = w }) bytes)) where
    sized_found : (large : Bool) (bytes : List ℕ) (b : ℕ) (v w : View) → AreAlike v w →
        IsFound (if large then refused place Size else f (record { number = b; view = v }) bytes)
        (if large then refused place Size else g (record { number = b; view = w }) bytes)
    sized_found true bytes b v w is = inr refl
    sized_found false bytes b v w is = next b v w bytes is

    file_found : (there : Option (List ℕ)) (b : ℕ) (v w : View) → AreAlike v w →
        IsFound (with_file place there (f (record { number = b; view = v })))
        (with_file place there (g (record { number = b; view = w })))
    file_found None b v w is = tt
    file_found (Some bytes) b v w is = sized_found (nat_lt 16777216 (length bytes)) bytes b v w is

    loads_onto : (b : ℕ) (one two : Option View) → option_map equipment_of two ≡ option_map equipment_of one →
        DidFound (loads held place path (equipped_as b one) f) (loads held place path (equipped_as b two) g)
    loads_onto b None None is = (refl, inr refl)
    loads_onto b None (Some w) is = absurd (cc)
    loads_onto b (Some v) None is = absurd (cc)
    loads_onto b (Some v) (Some w) is = (refl, file_found (get held path) b v w cc)

    loads_by : (test : Result ℕ ScriptCause) →
        DidFound (loads held place path (test >>= (λ b. equipped_as b (view_of s.lab b))) f)
        (loads held place path (test >>= (λ b. equipped_as b (view_of t.lab b))) g)
    loads_by (Ok b) = loads_onto b (view_of s.lab b) (view_of t.lab b) (views_same b)
    loads_by (Err cause) = (refl, inr refl)

    pub loads_found : DidFound (loads held place path (equipped s) f) (loads held place path (equipped t) g)
    loads_found = rw selected_same (loads_by (selected s))
