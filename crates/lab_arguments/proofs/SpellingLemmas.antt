-- The words of a line are read as its parts say, and all words that are read are those of a line.
use Rattle.std.proofs.Common.{◌≡◌, ◌∙◌, ◌&&◌, ◌||◌, ◌+◌, ◌<◌, ◌==◌, ℕ, Bool, true, false, not, List, [], ◌∷◌, ◌++◌}
use Rattle.std.proofs.Common.{Option, Some, None, refl, ap, ap₂, sym, subst, codes, cond, map, length, get_or, arith}
use Rattle.std.specs.Prelude.{IsSome, option_and_then, option_map, unwrap_or}
use Rattle.std.specs.List.{after_first, before_first, list_all, list_any, position_or_len}
use Rattle.std.specs.Str.{bytes_eq}
use Rattle.std.proofs.lemmas.Bool.{and_from, and_parts, eqb-true, false≢true, not-false, not-true, true≢false}
use Rattle.std.proofs.lemmas.List.Sums.{prefix_len_stops, split_at_first, take_while-cons}
use Rattle.std.proofs.lemmas.Option.{none-some}
use Rattle.std.proofs.lemmas.Slice.Eq.{bytes_eq-Decides}
use Rattle.lab_arguments.specs.Grammar.{Form, Expected, Reading, Sort, Text, after_dash, after_two_dashes, anything}
use Rattle.lab_arguments.specs.Grammar.{check_form}
use Rattle.lab_arguments.specs.Grammar.{end_of_options, gen_form, give, give_option, give_plain, is_among, is_complete}
use Rattle.lab_arguments.specs.Grammar.{is_dash, is_equals, is_given, option, plain, plain_only, run_form, sort_of}
use Rattle.lab_arguments.specs.Grammar.{start_of}
use Rattle.lab_arguments.specs.Grammar.{stray, take_any, take_text, text_of_option, texts_from}
use Rattle.lab_arguments.specs.Spelling.{AreOf, Line, Part, ReadsLines, apart, dashed, joined, may_be_plain, may_stand}
use Rattle.lab_arguments.specs.Spelling.{parts_of, take_parts, word, words_of, written, written_behind}
use Rattle.lab_arguments.proofs.TurnLemmas.{reading}

-- ---- lines are read

plain_sort : (text : Text) → may_be_plain text ≡ true → sort_of text ≡ plain
plain_sort [] may = refl
plain_sort (b ∷ []) may = go (b == 45)
  where
    go : (t : Bool) → cond t plain plain ≡ plain
    go true = refl
    go false = refl
plain_sort (b ∷ c ∷ rest) may = rw (not-true (b == 45) may) refl

-- `--NAME` and `--NAME=TEXT` are options of this name
abbrev pub IsName : Text → Type 0
IsName name =
    (sort_of (dashed name) ≡ option name None) ×
    ((text : Text) → sort_of (dashed name ++ 61 ∷ text) ≡ option name (Some text))

abbrev pub AreNames : List Text → Type 0
AreNames [] = Unit
AreNames (name ∷ names) = IsName name × AreNames names

name_among : (names : List Text) → AreNames names → (name : Text) → is_among name names ≡ true → IsName name
name_among [] are name known = absurd (false≢true known)
name_among (first ∷ names) are name known = go (bytes_eq first name) refl (name_among names are.1 name)
  where
    go : (b : Bool) → bytes_eq first name ≡ b → (is_among name names ≡ true → IsName name) → IsName name
    go true same later = subst IsName ((bytes_eq-Decides first name).0 same) are.0
    go false other later = later (rw other at known)

module _ (form : Form) where
  -- from here on the words give what the parts give
  Reads : Reading → List Text → List Part → Type 0
  Reads r words parts = texts_from form r words ≡ option_map (λ n. n.given) (take_parts r parts)

  abbrev Agrees : Option Reading → List Text → List Part → Type 0
  Agrees next words parts =
      option_and_then (λ n. texts_from form n words) next
      ≡ option_map (λ n. n.given) (option_and_then (λ n. take_parts n parts) next)

  given_then : (name text : Text) (left : List Text) (given : List (Text × Text)) (words : List Text)
      (parts : List Part) → ((more : List (Text × Text)) → Reads (reading anything left more) words parts)
      → Agrees (give name text (reading anything left given)) words parts
  unfolding Reads
  given_then name text left given words parts later = go (is_given name given)
    where
      go : (b : Bool) → Agrees (cond b None (Some (reading anything left (given ++ (name, text) ∷ [])))) words parts
      go true = refl
      go false = later (given ++ (name, text) ∷ [])

  plain_then : (text : Text) (left : List Text) (given : List (Text × Text)) (words : List Text) (parts : List Part)
      → ((rest : List Text) (more : List (Text × Text)) → Reads (reading anything rest more) words parts)
      → Agrees (give_plain left text (reading anything left given)) words parts
  plain_then text [] given words parts later = refl
  plain_then text (name ∷ left) given words parts later = given_then name text left given words parts (later left)

  -- after `--`
  plain_reads : (words left : List Text) (given : List (Text × Text))
      → texts_from form (reading plain_only left given) words
      ≡ option_map (λ n. n.given) (take_parts (reading anything left given) (map word words))
  unfolding texts_from
  plain_reads [] left given = refl
  plain_reads (text ∷ words) [] given = refl
  plain_reads (text ∷ words) (name ∷ left) given =
      go (is_given name given) (plain_reads words left (given ++ (name, text) ∷ []))
    where
      go : (b : Bool) → texts_from form (reading plain_only left (given ++ (name, text) ∷ [])) words
          ≡ option_map (λ n. n.given)
          (take_parts (reading anything left (given ++ (name, text) ∷ [])) (map word words))
          → option_and_then (λ n. texts_from form n words)
          (cond b None (Some (reading plain_only left (given ++ (name, text) ∷ []))))
          ≡ option_map (λ n. n.given) (option_and_then (λ n. take_parts n (map word words))
          (cond b None (Some (reading anything left (given ++ (name, text) ∷ [])))))
      go true later = refl
      go false later = later

  ends : (behind : Option (List Text)) (left : List Text) (given : List (Text × Text))
      → Reads (reading anything left given) (written_behind behind) (map word (unwrap_or behind []))
  unfolding Reads texts_from
  ends None left given = refl
  ends (Some words) left given = plain_reads words left given

  reads : AreNames form.option_names → (behind : Option (List Text)) (left : List Text) (given : List (Text × Text))
      (parts : List Part) → list_all (may_stand form) parts ≡ true
      → Reads (reading anything left given) (written parts ++ written_behind behind)
      (parts ++ map word (unwrap_or behind []))
  unfolding Reads texts_from
  reads names behind left given [] may = ends behind left given
  reads names behind left given (word text ∷ parts) may =
      let both = and_parts (may_be_plain text) (list_all (may_stand form) parts) may in
      rw (plain_sort text both.0)
      (plain_then text left given _ _ (λ rest more. reads names behind rest more parts both.1))
  reads names behind left given (joined name text ∷ parts) may =
      let both = and_parts (is_among name form.option_names) (list_all (may_stand form) parts) may in
      rw ((name_among form.option_names names name both.0).1 text, both.0)
      (given_then name text left given _ _ (λ more. reads names behind left more parts both.1))
  reads names behind left given (apart name text ∷ parts) may =
      let known = is_among name form.option_names in
      let both = and_parts (known && may_be_plain text) (list_all (may_stand form) parts) may in
      let here = and_parts known (may_be_plain text) both.0 in
      rw ((name_among form.option_names names name here.0).0, here.0, plain_sort text here.1)
      (given_then name text left given _ _ (λ more. reads names behind left more parts both.1))

-- ---- the words of no line are refused

-- the first `=`, the text before it and the text after it

found : (text : Text) → list_any is_equals text ≡ true → position_or_len is_equals text < length text
found [] e = absurd (false≢true e)
found (b ∷ rest) e = go (is_equals b) (found rest) e
  where
    go : (t : Bool) → (list_any is_equals rest ≡ true → position_or_len is_equals rest < length rest)
        → (t || list_any is_equals rest) ≡ true
        → cond (not t) (1 + position_or_len is_equals rest) 0 < length (b ∷ rest)
    go true later is = omega arith
    go false later is = let below = later is in omega arith

splits : (text : Text) → list_any is_equals text ≡ true
    → text ≡ before_first is_equals text ++ 61 ∷ after_first is_equals text
splits text e =
    let below = found text e in
    let at = get_or text (position_or_len is_equals text) 0 in
    let stops = prefix_len_stops (λ b. not (is_equals b)) text 0 below in
    let is : at ≡ 61 = eqb-true at 61 (not-false (is_equals at) stops) in
    split_at_first is_equals text 0 below
    ∙ ap (λ (b : ℕ). before_first is_equals text ++ b ∷ after_first is_equals text) is

whole : (text : Text) → list_any is_equals text ≡ false → before_first is_equals text ≡ text
whole [] e = refl
whole (b ∷ rest) e = take_while-cons (λ c. not (is_equals c)) b rest ∙ go (is_equals b) (whole rest) e
  where
    go : (t : Bool) → (list_any is_equals rest ≡ false → before_first is_equals rest ≡ rest)
        → (t || list_any is_equals rest) ≡ false → cond (not t) (b ∷ before_first is_equals rest) [] ≡ b ∷ rest
    go true later is = absurd (true≢false is)
    go false later is = ap (λ l. b ∷ l) (later is)

-- how a word of this sort is spelled
abbrev IsSpelled : Text → Sort → Type 0
IsSpelled text end_of_options = text ≡ dashed []
IsSpelled text (option name None) = text ≡ dashed name
IsSpelled text (option name (Some value)) = text ≡ dashed name ++ 61 ∷ value
IsSpelled text stray = Unit
IsSpelled text plain = may_be_plain text ≡ true

spelled_option : (a b : ℕ) (rest : Text) → a ≡ 45 → b ≡ 45 → IsSpelled (a ∷ b ∷ rest) (after_two_dashes rest)
spelled_option a b [] first second = ap₂ (λ x y. x ∷ y ∷ []) first second
spelled_option a b (c ∷ rest) first second = go (list_any is_equals (c ∷ rest)) refl
  where
    go : (t : Bool) → list_any is_equals (c ∷ rest) ≡ t → IsSpelled (a ∷ b ∷ c ∷ rest)
        (option (before_first is_equals (c ∷ rest)) (cond t (Some (after_first is_equals (c ∷ rest))) None))
    go true some =
        ap₂ (λ x y. x ∷ y ∷ c ∷ rest) first second ∙ ap (λ l. 45 ∷ 45 ∷ l) (splits (c ∷ rest) some)
    go false none =
        ap₂ (λ x y. x ∷ y ∷ c ∷ rest) first second ∙ ap (λ l. 45 ∷ 45 ∷ l) (sym (whole (c ∷ rest) none))

spelled : (text : Text) → IsSpelled text (sort_of text)
spelled [] = refl
spelled (a ∷ rest) = by_first rest (is_dash a) refl
  where
    by_second : (b : ℕ) (more : Text) (t : Bool) → is_dash a ≡ true → is_dash b ≡ t
        → IsSpelled (a ∷ b ∷ more) (cond t (after_two_dashes more) stray)
    by_second b more true first second = spelled_option a b more (eqb-true a 45 first) (eqb-true b 45 second)
    by_second b more false first second = tt

    by_first : (more : Text) (t : Bool) → is_dash a ≡ t → IsSpelled (a ∷ more) (cond t (after_dash more) plain)
    by_first [] true first = refl
    by_first [] false first = refl
    by_first (b ∷ more) true first = by_second b more (is_dash b) first refl
    by_first (b ∷ more) false first = rw first refl

module _ (form : Form) where
  -- the words that may come at a place are those of a line, or its rest
  abbrev IsRest : Expected → List Text → Type 0
  IsRest anything words = AreOf form words
  IsRest (text_of_option name) words =
      (text : Text) × (rest : List Text) × (words ≡ text ∷ rest) × (may_be_plain text ≡ true) × AreOf form rest
  IsRest plain_only words = Unit

  abbrev Rests : List Text → Type 0
  Rests words = (place : Expected) (left : List Text) (given out : List (Text × Text))
      → texts_from form (reading place left given) words ≡ Some out → IsRest place words

  abbrev one_more : Part → Line → Line
  one_more part line = record { parts = part ∷ line.parts; behind = line.behind }

  more_parts : (part : Part) (words whole_words : List Text) → may_stand form part ≡ true
      → whole_words ≡ written (part ∷ []) ++ words
      → ((line : Line) → written (part ∷ []) ++ words_of line ≡ words_of (one_more part line))
      → AreOf form words → AreOf form whole_words
  more_parts part words whole_words may is joins are = (
    one_more part are.0,
    and_from (may_stand form part) (list_all (may_stand form) are.0.parts) may are.1,
    is ∙ ap (λ l. written (part ∷ []) ++ l) are.2 ∙ joins are.0,
  )

  after_given : (b : Bool) (next : Reading) (words : List Text) (out : List (Text × Text))
      → option_and_then (λ n. texts_from form n words) (cond b None (Some next)) ≡ Some out
      → texts_from form next words ≡ Some out
  after_given true next words out e = absurd (none-some out e)
  after_given false next words out e = e

  rests_plain : (text : Text) (words left : List Text) (given out : List (Text × Text)) → Rests words
      → option_and_then (λ n. texts_from form n words) (give_plain left text (reading anything left given)) ≡ Some out
      → AreOf form words
  rests_plain text words [] given out later e = absurd (none-some out e)
  rests_plain text words (name ∷ left) given out later e =
      later anything left (given ++ (name, text) ∷ []) out (after_given (is_given name given) _ words out e)

  rests_any : (text : Text) (words left : List Text) (given out : List (Text × Text)) (sort : Sort)
      → IsSpelled text sort → Rests words
      → option_and_then (λ n. texts_from form n words) (take_any form sort text (reading anything left given))
      ≡ Some out
      → AreOf form (text ∷ words)
  rests_any text words left given out end_of_options spelt later e =
      (record { parts = []; behind = Some words }, refl, ap (λ t. t ∷ words) spelt)
  rests_any text words left given out stray spelt later e = absurd (none-some out e)
  rests_any text words left given out plain spelt later e =
      more_parts (word text) words (text ∷ words) spelt refl (λ line. refl)
      (rests_plain text words left given out later e)
  rests_any text words left given out (option name value) spelt later e =
      go (is_among name form.option_names) refl e
    where
      go : (b : Bool) → is_among name form.option_names ≡ b
          → option_and_then (λ n. texts_from form n words)
          (cond b (give_option name value (reading anything left given)) None) ≡ Some out
          → AreOf form (text ∷ words)
      go false unknown none = absurd (none-some out none)
      go true known some = by_value value spelt some
        where
          by_value : (v : Option Text) → IsSpelled text (option name v)
              → option_and_then (λ n. texts_from form n words) (give_option name v (reading anything left given))
              ≡ Some out
              → AreOf form (text ∷ words)
          by_value (Some v) is gives =
              more_parts (joined name v) words (text ∷ words) known (ap (λ t. t ∷ words) is) (λ line. refl)
              (later anything left (given ++ (name, v) ∷ []) out (after_given (is_given name given) _ words out gives))
          by_value None is gives =
              let at = later (text_of_option name) left given out gives in
              more_parts (apart name at.0) at.1 (text ∷ words) (and_from _ _ known at.3)
              (ap₂ (λ t l. t ∷ l) is at.2) (λ line. refl) at.4

  rests_text : (name text : Text) (words left : List Text) (given out : List (Text × Text)) (sort : Sort)
      → IsSpelled text sort → Rests words
      → option_and_then (λ n. texts_from form n words)
      (take_text name sort text (reading (text_of_option name) left given)) ≡ Some out
      → IsRest (text_of_option name) (text ∷ words)
  rests_text name text words left given out plain spelt later e = (
    text,
    words,
    refl,
    spelt,
    later anything left (given ++ (name, text) ∷ []) out (after_given (is_given name given) _ words out e),
  )
  rests_text name text words left given out end_of_options spelt later e = absurd (none-some out e)
  rests_text name text words left given out (option other value) spelt later e = absurd (none-some out e)
  rests_text name text words left given out stray spelt later e = absurd (none-some out e)

  rests : (words : List Text) → Rests words
  unfolding texts_from
  rests [] anything left given out e = (record { parts = []; behind = None }, refl, refl)
  rests [] (text_of_option name) left given out e = absurd (none-some out e)
  rests [] plain_only left given out e = tt
  rests (text ∷ words) anything left given out e =
      rests_any text words left given out (sort_of text) (spelled text) (rests words) e
  rests (text ∷ words) (text_of_option name) left given out e =
      rests_text name text words left given out (sort_of text) (spelled text) (rests words) e
  rests (text ∷ words) plain_only left given out e = tt

-- ---- the law

if_given : {A B C : Type 0} (f : A → B) (g : B → Option C) (o : Option A)
    → option_and_then g (option_map f o) ≡ option_and_then (λ a. g (f a)) o
if_given f g None = refl
if_given f g (Some a) = refl

reads_lines : (form : Form) → AreNames form.option_names → ReadsLines form
unfolding Reads
reads_lines form names = record {
  lines = λ line may.
      ap (option_and_then complete) (reads form names line.behind form.plain_names [] line.parts may)
      ∙ if_given (λ (n : Reading). n.given) complete (take_parts (start_of form) (parts_of line));
  no_others = λ words some. go (texts_from form (start_of form) words) refl some;
}
  where
    complete : List (Text × Text) → Option (List (Text × Text))
    complete given = cond (is_complete form given) (Some given) None

    go : {words : List Text} (o : Option (List (Text × Text))) → texts_from form (start_of form) words ≡ o
        → IsSome (option_and_then complete o) → AreOf form words
    go None e some = absurd (false≢true some)
    go {words} (Some out) e some = rests form words anything form.plain_names [] out e

workers_name : IsName (codes "workers")
workers_name = (refl, λ text. refl)

pub run_reads : ReadsLines run_form
run_reads = reads_lines run_form (workers_name, ((refl, λ text. refl), tt))

pub check_reads : ReadsLines check_form
check_reads = reads_lines check_form tt

pub gen_reads : ReadsLines gen_form
gen_reads = reads_lines gen_form (workers_name, tt)
