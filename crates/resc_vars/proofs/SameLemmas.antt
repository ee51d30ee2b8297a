-- What comes next in scripts that mean the same, and bodies that are opened in them.
use Rattle.std.proofs.Common.{◌≡◌, inl, inr, ◌∷◌, ◌++◌, ◌∙◌, ℕ, suc, nat_eq, nat_lt, if◌then◌else◌, Bool, true, false}
use Rattle.std.proofs.Common.{List, [], length, map, Option, None, Some, Result, Ok, Err, refl, sym, ap, subst}
use Rattle.std.specs.Cmp.Lexicographic.{pointwise}
use Rattle.std.specs.Map.{lookup}
use Rattle.lab_num.specs.Depth.{depth_limit}
use Rattle.resc_vars.specs.declared.cause.ScriptCause.{ScriptCause}
use Rattle.resc_vars.specs.declared.cause.ScriptCause.TheVariants.{Depth}
use Rattle.resc_vars.specs.declared.item.Item.{Item}
use Rattle.resc_vars.specs.declared.item.SourceLines.{SourceLines}
use Rattle.resc_vars.specs.Behind.{longer, main_file, opened_behind, with_behind}
use Rattle.resc_vars.specs.Bodies.{enter, opened, run_of, source_of}
use Rattle.resc_vars.specs.Coming.{AreNextAlike, AreOpenedAlike, MeansSame, Thing, bodies, coming, texts, thing}
use Rattle.resc_vars.specs.Coming.{things_in}
use Rattle.resc_vars.specs.Items.{items}
use Rattle.resc_vars.specs.Script.{Macros, Open, Outcome, Gives, Ends, Refuses, State, next_of}
use Rattle.resc_vars.specs.Variables.{Variables}
use Rattle.resc_vars.proofs.ComingLemmas.{OneUnless, Said, Bad, next_one, seen}
use Rattle.resc_vars.proofs.ThingLemmas.{alike_texts, items_one}

said_text : {a b : List ℕ} {c d : List Thing} {v w : Variables} {m k : List (List ℕ × List (List ℕ))} →
    Said a c v m ≡ Said b d w k → a ≡ b
said_text is = cc

said_coming : {a b : List ℕ} {c d : List Thing} {v w : Variables} {m k : List (List ℕ × List (List ℕ))} →
    Said a c v m ≡ Said b d w k → c ≡ d
said_coming is = cc

said_variables : {a b : List ℕ} {c d : List Thing} {v w : Variables} {m k : List (List ℕ × List (List ℕ))} →
    Said a c v m ≡ Said b d w k → v ≡ w
said_variables is = cc

said_macros : {a b : List ℕ} {c d : List Thing} {v w : Variables} {m k : List (List ℕ × List (List ℕ))} →
    Said a c v m ≡ Said b d w k → m ≡ k
said_macros is = cc

bad_cause : {a b : ScriptCause} → Bad a ≡ Bad b → a ≡ b
bad_cause is = cc

next_by : (next other : Outcome) → OneUnless (seen next) (seen other) → AreNextAlike next other
next_by (Gives file n text flow) other (inl bad) = absurd (cc)
next_by (Ends kept) other (inl bad) = absurd (cc)
next_by (Refuses file n why kept) other (inl bad) = inl (bad_cause bad)
next_by next (Gives file n text flow) (inr (inl bad)) = absurd (cc)
next_by next (Ends kept) (inr (inl bad)) = absurd (cc)
next_by next (Refuses file n why kept) (inr (inl bad)) = inr (inl (bad_cause bad))
next_by (Gives file n text flow) (Gives file' n' text' flow') (inr (inr is)) =
    inr (inr (
      said_text is,
      record { to_come = said_coming is; variables = said_variables is; macros = said_macros is },
    ))
next_by (Ends kept) (Ends kept') (inr (inr is)) = inr (inr tt)
next_by (Refuses file n why kept) (Refuses file' n' why' kept') (inr (inr is)) = inr (inr (bad_cause is))
next_by (Gives file n text flow) (Ends kept') (inr (inr is)) = absurd (cc)
next_by (Gives file n text flow) (Refuses file' n' why' kept') (inr (inr is)) = absurd (cc)
next_by (Ends kept) (Gives file' n' text' flow') (inr (inr is)) = absurd (cc)
next_by (Ends kept) (Refuses file' n' why' kept') (inr (inr is)) = absurd (cc)
next_by (Refuses file n why kept) (Gives file' n' text' flow') (inr (inr is)) = absurd (cc)
next_by (Refuses file n why kept) (Ends kept') (inr (inr is)) = absurd (cc)

pub next_alike : (flow other : State) → MeansSame flow other → AreNextAlike (next_of flow) (next_of other)
next_alike flow other same = next_by (next_of flow) (next_of other) (next_one flow other same)

heads : {A : Type 0} (x y : A) (xs ys : List A) → x ∷ xs ≡ y ∷ ys → x ≡ y
heads x y xs ys is = cc

tails : {A : Type 0} (x y : A) (xs ys : List A) → x ∷ xs ≡ y ∷ ys → xs ≡ ys
tails x y xs ys is = cc

-- what is found among macros that mean the same
abbrev FoundAlike : Option SourceLines → Option SourceLines → Type 0
FoundAlike None None = Unit {0}
FoundAlike (Some source) (Some other) = texts other.lines ≡ texts source.lines
FoundAlike _ _ = ⊥

found_by : (b : Bool) (source other : SourceLines) (found others : Option SourceLines) →
    texts other.lines ≡ texts source.lines →
    FoundAlike found others → FoundAlike (if b then Some source else found) (if b then Some other else others)
found_by true source other found others same are = same
found_by false source other found others same are = are

found_alike : (name : List ℕ) (macros others : Macros) → bodies others ≡ bodies macros →
    FoundAlike (lookup (pointwise nat_eq name) macros) (lookup (pointwise nat_eq name) others)
found_alike name [] [] same = tt
found_alike name (macro ∷ macros) (other ∷ others) same =
    let one : List ℕ × List (List ℕ) = (macro.0, texts macro.1.lines) in
    let two : List ℕ × List (List ℕ) = (other.0, texts other.1.lines) in
    let head = heads two one (bodies others) (bodies macros) same in
    subst
    (λ key. FoundAlike (lookup (pointwise nat_eq name) (macro ∷ macros))
    (if pointwise nat_eq name key then Some other.1 else lookup (pointwise nat_eq name) others))
    (sym (ap (λ (pair : List ℕ × List (List ℕ)). pair.0) head))
    (found_by (pointwise nat_eq name macro.0) macro.1 other.1 (lookup (pointwise nat_eq name) macros)
    (lookup (pointwise nat_eq name) others) (ap (λ (pair : List ℕ × List (List ℕ)). pair.1) head)
    (found_alike name macros others (tails two one (bodies others) (bodies macros) same)))
found_alike name [] (other ∷ others) same = absurd (cc)
found_alike name (macro ∷ macros) [] same = absurd (cc)

-- a body is opened within the others
abbrev within : State → SourceLines → State
within flow source = record flow { current = opened source; outer = flow.current ∷ flow.outer }

abbrev done : State → Result State ScriptCause
done flow = Ok flow

done_one : (one two : State) → done one ≡ done two → one ≡ two
done_one one two is = cc

-- what is to come with the body of a source opened
coming_by : (room : Bool) (flow after : State) (source : SourceLines) →
    (if room then done (within flow source) else Err Depth) ≡ done after →
    coming after ≡ map thing (items 0 source.lines) ++ coming flow
coming_by true flow after source is = ap coming (sym (done_one (within flow source) after is))
coming_by false flow after source is = absurd (cc)

pub coming_opened : (flow after : State) (file text : List ℕ) → enter flow (source_of file text) ≡ Ok after →
    coming after ≡ things_in text ++ coming flow
coming_opened flow after file text is =
    coming_by (nat_lt (length flow.outer) depth_limit) flow after (source_of file text) is

module _ (flow other : State) (means : MeansSame flow other) where
  enter_by : (b c : Bool) (source source' : SourceLines) → texts source'.lines ≡ texts source.lines →
      AreOpenedAlike (if b then Ok (within flow source) else Err Depth)
      (if c then Ok (within other source') else Err Depth)
  enter_by true true source source' same =
      inr (inr (record {
        to_come =
            ap (λ all. all ++ coming other)
            (items_one 0 source.lines source'.lines (alike_texts source.lines source'.lines same))
            ∙ ap (λ all. map thing (items 0 source.lines) ++ all) means.to_come;
        variables = means.variables;
        macros = means.macros;
      }))
  enter_by false c source source' same = inl refl
  enter_by true false source source' same = inr (inl refl)

  enter_alike : (source source' : SourceLines) → texts source'.lines ≡ texts source.lines →
      AreOpenedAlike (enter flow source) (enter other source')
  enter_alike source source' same =
      enter_by (nat_lt (length flow.outer) depth_limit) (nat_lt (length other.outer) depth_limit) source source' same

  pub file_alike : (file text : List ℕ) →
      AreOpenedAlike (enter flow (source_of file text)) (enter other (source_of file text))
  file_alike file text = enter_alike (source_of file text) (source_of file text) refl

  macro_by : (name : List ℕ) (one two : Option SourceLines) → lookup (pointwise nat_eq name) flow.kept.macros ≡ one →
      lookup (pointwise nat_eq name) other.kept.macros ≡ two → FoundAlike one two →
      AreOpenedAlike (run_of flow name) (run_of other name)
  macro_by name None None one two found = rw (one, two) (inr (inr refl))
  macro_by name (Some source) (Some source') one two found = rw (one, two) (enter_alike source source' found)
  macro_by name None (Some source) one two found = absurd found
  macro_by name (Some source) None one two found = absurd found

  pub macro_alike : (name : List ℕ) → AreOpenedAlike (run_of flow name) (run_of other name)
  macro_alike name =
      macro_by name (lookup (pointwise nat_eq name) flow.kept.macros) (lookup (pointwise nat_eq name) other.kept.macros)
      refl refl (found_alike name flow.kept.macros other.kept.macros means.macros)

-- ---- with more behind

pub longer_length : (more : List Item) (outer : List Open) → length (longer more outer) ≡ length outer
longer_length more [] = refl
longer_length more (body ∷ outer) = ap suc (longer_length more outer)

behind_by : (more : List Item) (room : Bool) (flow : State) (source : SourceLines) →
    (if room then Ok (within (with_behind more flow) source) else Err Depth)
    ≡ opened_behind more (if room then Ok (within flow source) else Err Depth)
behind_by more true flow source = refl
behind_by more false flow source = refl

pub enter_behind : (more : List Item) (flow : State) (source : SourceLines) →
    enter (with_behind more flow) source ≡ opened_behind more (enter flow source)
enter_behind more flow source =
    rw (longer_length more flow.outer) (behind_by more (nat_lt (length flow.outer) depth_limit) flow source)

run_by : (more : List Item) (flow : State) (name : List ℕ) (found : Option SourceLines) →
    lookup (pointwise nat_eq name) flow.kept.macros ≡ found →
    run_of (with_behind more flow) name ≡ opened_behind more (run_of flow name)
run_by more flow name None found = rw found refl
run_by more flow name (Some source) found = rw found (enter_behind more flow source)

pub run_behind : (more : List Item) (flow : State) (name : List ℕ) →
    run_of (with_behind more flow) name ≡ opened_behind more (run_of flow name)
run_behind more flow name = run_by more flow name (lookup (pointwise nat_eq name) flow.kept.macros) refl

-- ---- what a body that is opened leaves

-- this holds where a body is opened
abbrev IfOpened : Result State ScriptCause → (State → Type 0) → Type 0
IfOpened (Ok flow) P = P flow
IfOpened (Err why) P = Unit {0}

-- a body that is opened leaves what is kept, and the outermost body
abbrev Within : State → State → Type 0
Within flow after = (after.kept ≡ flow.kept) × (main_file after ≡ main_file flow)

within_by : (room : Bool) (flow : State) (source : SourceLines) →
    IfOpened (if room then Ok (within flow source) else Err Depth) (Within flow)
within_by true flow source = (refl, refl)
within_by false flow source = tt

enter_within : (flow : State) (source : SourceLines) → IfOpened (enter flow source) (Within flow)
enter_within flow source = within_by (nat_lt (length flow.outer) depth_limit) flow source

run_within_by : (flow : State) (name : List ℕ) (found : Option SourceLines) →
    lookup (pointwise nat_eq name) flow.kept.macros ≡ found → IfOpened (run_of flow name) (Within flow)
run_within_by flow name None found = rw found tt
run_within_by flow name (Some source) found = rw found (enter_within flow source)

opened_parts : (one : Result State ScriptCause) (after : State) (P : State → Type 0) → one ≡ Ok after → IfOpened one P →
    P after
opened_parts one after P is holds = subst (λ x. IfOpened x P) is holds

pub file_within : (flow after : State) (file text : List ℕ) → enter flow (source_of file text) ≡ Ok after →
    (after.kept ≡ flow.kept) × (main_file after ≡ main_file flow)
file_within flow after file text is =
    opened_parts (enter flow (source_of file text)) after (Within flow) is (enter_within flow (source_of file text))

pub macro_within : (flow after : State) (name : List ℕ) → run_of flow name ≡ Ok after →
    (after.kept ≡ flow.kept) × (main_file after ≡ main_file flow)
macro_within flow after name is =
    opened_parts (run_of flow name) after (Within flow) is
    (run_within_by flow name (lookup (pointwise nat_eq name) flow.kept.macros) refl)
