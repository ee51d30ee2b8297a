-- Over all the words: clap refuses them exactly where our reading does, and else holds the same texts.
use Rattle.std.proofs.Common.{◌≡◌, ◌∙◌, ◌⊎◌, List, [], ◌∷◌, Option, Some, None, inl, inr, refl}
use Rattle.std.proofs.Common.{ap, sym, subst, fold, ⊎_elim}
use Rattle.std.specs.Prelude.{option_and_then}
use Rattle.std.specs.Str.{IsUtf8}
use Rattle.clap.specs.Walk.{Row, Walk, settled, walked}
use Rattle.clap.specs.Simple.{Shape}
use Rattle.clap.specs.Kinds.{Kinds, or_else}
use Rattle.clap.specs.Faults.{settle_fault, turn_fault, walk_fault}
use Rattle.lab_arguments.specs.Grammar.{Form, Expected, Reading, Text, anything, give_plain, plain_only, sort_of}
use Rattle.lab_arguments.specs.Grammar.{take_any}
use Rattle.lab_arguments.specs.Grammar.{take_at, take_text, take_word, text_of_option, texts_at, texts_from}
use Rattle.lab_arguments.proofs.RowLemmas.{rows_of_texts}
use Rattle.lab_arguments.proofs.SortLemmas.{sort_facts}
use Rattle.lab_arguments.proofs.Standing.{Faulty, Fits, IsDoomed, Stands, StepOf}
use Rattle.lab_arguments.proofs.TurnLemmas.{DoomedTurn, any_step, doomed_by_sort, left_fails, no_text_fails, reading}
use Rattle.lab_arguments.proofs.TurnLemmas.{right_fails, tail_fails, tail_step, value_step}

abbrev pub AreUtf8 : List Text → Type 0
AreUtf8 [] = Unit
AreUtf8 (word ∷ words) = IsUtf8 word × AreUtf8 words

pub grouped : (a b c : Kinds) → or_else (or_else a b) c ≡ or_else a (or_else b c)
grouped [] b c = refl
grouped (k ∷ ks) b c = refl

abbrev pub Agrees : Kinds → List Row → Option (List (Text × Text)) → Type 0
Agrees k rows None = Faulty k
Agrees k rows (Some given) = (k ≡ []) × (rows ≡ rows_of_texts given)

module _ (s : Shape) where
  abbrev pub end_walk : Walk → List Text → Walk
  end_walk w words = fold (walked s.rules []) w words

  abbrev end_fault : Walk → Kinds
  end_fault w = settle_fault s.rules s.args_override_self w.held

  -- the faults from w on, without those after the last settling
  abbrev pub rest_fault : Walk → List Text → Kinds
  rest_fault w words = or_else (walk_fault s [] w words) (end_fault (end_walk w words))

  abbrev pub rest_rows : Walk → List Text → List Row
  rest_rows w words = (settled s.rules (end_walk w words).held).rows

  rest_more : (w : Walk) (word : Text) (words : List Text)
      → rest_fault w (word ∷ words) ≡ or_else (turn_fault s [] w word) (rest_fault (walked s.rules [] w word) words)
  unfolding walk_fault
  rest_more w word words = grouped (turn_fault s [] w word) _ _

  rest_none : (w : Walk) → rest_fault w [] ≡ end_fault w
  unfolding walk_fault
  rest_none w = refl

module _ (s : Shape) (f : Form) (fits : Fits s f) where
  -- ---- what is doomed fails

  doomed_turn : (w : Walk) (word : Text) → IsUtf8 word → IsDoomed s w → DoomedTurn s w word
  doomed_turn w word utf8 (rows, pending, position, left, inl is, at, fails) =
      subst (λ v. Faulty (turn_fault s [] v word) ⊎ IsDoomed s (walked s.rules [] v word)) (sym is)
      (doomed_by_sort s f fits rows pending position left word at fails (sort_of word) utf8 (sort_facts word))
  doomed_turn w word utf8 (rows, pending, position, left, inr is, at, fails) =
      subst (λ v. Faulty (turn_fault s [] v word) ⊎ IsDoomed s (walked s.rules [] v word)) (sym is.1)
      (inl (tail_fails s f fits rows pending position left word at fails is.0))

  doomed_end : (w : Walk) → IsDoomed s w → Faulty (end_fault s w)
  doomed_end w (rows, pending, position, left, inl is, at, fails) =
      subst (λ (v : Walk). Faulty (end_fault s v)) (sym is) fails
  doomed_end w (rows, pending, position, left, inr is, at, fails) =
      subst (λ (v : Walk). Faulty (end_fault s v)) (sym is.1) fails

  doomed : (words : List Text) → AreUtf8 words → (w : Walk) → IsDoomed s w → Faulty (rest_fault s w words)
  doomed [] utf8 w d = λ e. doomed_end w d (sym (rest_none s w) ∙ e)
  doomed (word ∷ words) utf8 w d =
      λ e. ⊎_elim (λ now. left_fails _ _ now (sym (rest_more s w word words) ∙ e))
      (λ later. right_fails (turn_fault s [] w word) _ (doomed words utf8.1 (walked s.rules [] w word) later)
      (sym (rest_more s w word words) ∙ e))
      (doomed_turn w word utf8.0 d)

  -- ---- one word

  abbrev Steps : Walk → Text → Option Reading → Type 0
  Steps w word next = StepOf s f (turn_fault s [] w word) (walked s.rules [] w word) next

  step_at : (place : Expected) (left : List Text) (given : List (Text × Text)) (w : Walk) (word : Text) → IsUtf8 word
      → Stands s f (reading place left given) w → Steps w word (take_at f place word (reading place left given))
  step_at anything left given w word utf8 (rows, pending, position, is, at, settles) =
      subst (λ v. Steps v word (take_any f (sort_of word) word (reading anything left given))) (sym is)
      (any_step s f fits rows pending position left given word at settles (sort_of word) utf8 (sort_facts word))
  step_at plain_only left given w word utf8 (rows, pending, position, is, at, settles) =
      subst (λ v. Steps v word (give_plain left word (reading plain_only left given))) (sym is)
      (tail_step s f fits rows pending position left given word at settles)
  step_at (text_of_option name) left given w word utf8 (rows, position, is, at, are, known) =
      subst (λ v. Steps v word (take_text name (sort_of word) word (reading (text_of_option name) left given))) (sym is)
      (value_step s f fits rows position left given name word at are known (sort_of word) utf8 (sort_facts word))

  -- ---- all the words

  abbrev AgreesAtEnd : Walk → Option (List (Text × Text)) → Type 0
  AgreesAtEnd w given = Agrees (end_fault s w) (settled s.rules w.held).rows given

  agree_at_end : (place : Expected) (left : List Text) (given : List (Text × Text)) (w : Walk)
      → Stands s f (reading place left given) w → AgreesAtEnd w (texts_at place given)
  agree_at_end anything left given w (rows, pending, position, is, at, settles) =
      subst (λ (v : Walk). AgreesAtEnd v (Some given)) (sym is) settles
  agree_at_end plain_only left given w (rows, pending, position, is, at, settles) =
      subst (λ (v : Walk). AgreesAtEnd v (Some given)) (sym is) settles
  agree_at_end (text_of_option name) left given w (rows, position, is, at, are, known) =
      subst (λ (v : Walk). Faulty (end_fault s v)) (sym is) (no_text_fails s name rows (fits.known_id name known))

  abbrev AgreesFrom : Walk → List Text → Option (List (Text × Text)) → Type 0
  AgreesFrom w words given = Agrees (rest_fault s w words) (rest_rows s w words) given

  agrees_more : (w : Walk) (word : Text) (words : List Text) (o : Option (List (Text × Text)))
      → turn_fault s [] w word ≡ [] → AgreesFrom (walked s.rules [] w word) words o → AgreesFrom w (word ∷ words) o
  agrees_more w word words o passed = go o
    where
      same : rest_fault s w (word ∷ words) ≡ rest_fault s (walked s.rules [] w word) words
      same =
          rest_more s w word words
          ∙ ap (λ k. or_else k (rest_fault s (walked s.rules [] w word) words)) passed

      go : (given : Option (List (Text × Text)))
          → AgreesFrom (walked s.rules [] w word) words given → AgreesFrom w (word ∷ words) given
      go None fails = λ e. fails (sym same ∙ e)
      go (Some given) both = (same ∙ both.0, both.1)

  pub agree : (words : List Text) → AreUtf8 words → (r : Reading) (w : Walk) → Stands s f r w
      → AgreesFrom w words (texts_from f r words)
  unfolding texts_from
  agree [] utf8 r w stands =
      subst (λ k. Agrees k (settled s.rules w.held).rows (texts_at r.expected r.given)) (sym (rest_none s w))
      (agree_at_end r.expected r.left r.given w stands)
  agree (word ∷ words) utf8 r w stands =
      go (λ next st. agree words utf8.1 next (walked s.rules [] w word) st) (take_word f r word)
      (step_at r.expected r.left r.given w word utf8.0 stands)
    where
      go : ((next : Reading) → Stands s f next (walked s.rules [] w word)
          → AgreesFrom (walked s.rules [] w word) words (texts_from f next words))
          → (next : Option Reading) → Steps w word next
          → AgreesFrom w (word ∷ words) (option_and_then (λ n. texts_from f n words) next)
      go later (Some next) st = agrees_more w word words _ st.0 (later next st.1)
      go later None (inl now) = λ e. left_fails _ _ now (sym (rest_more s w word words) ∙ e)
      go later None (inr dooms) =
          λ e. right_fails (turn_fault s [] w word) _ (doomed words utf8.1 (walked s.rules [] w word) dooms)
          (sym (rest_more s w word words) ∙ e)
