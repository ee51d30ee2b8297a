-- A text with blanks for its comments is a text: signs beyond ASCII change nothing that a comment or a string is in.
use Rattle.std.proofs.Common.{◌≡◌, ℕ, ◌<◌, ◌≤◌, ◌∙◌, ◌⊎◌, Bool, true, false, cond, ltb, ◌==◌, ◌&&◌, refl, ap, inl, inr}
use Rattle.std.proofs.Common.{zero, suc, List, [], ◌∷◌, ◌++◌, length, get_or, map, Option, None, Some, arith, lit<}
use Rattle.std.specs.List.{AllByRecursion}
use Rattle.std.specs.Option.{option_map}
use Rattle.std.specs.Str.{byte, IsAscii, IsUtf8}
use Rattle.std.proofs.lemmas.Bool.{and_parts, cases_lt, le-ltb, ne_eqb}
use Rattle.std.proofs.lemmas.Str.{IsUtf8-append, IsUtf8-nil, IsUtf8-encode, IsUtf8-from_ascii, encode_ascii}
use Rattle.std.proofs.lemmas.Str.{length-encode, len_utf8_bounds}
use Rattle.std.proofs.lemmas.Str.Ascii.{IsAscii-cons, IsAscii-nil}
use lib.Utf8.{encode, encodes, scalar, scalars}
use Rattle.repl_read.specs.declared.comments.Inside.{Inside}
use Rattle.repl_read.specs.declared.comments.Inside.TheVariants.{Nothing, Words, Line, Block}
use Rattle.repl_read.specs.Comments.{turn_at, after_sign, ends_line, seen, closes, marks, blanked}
use Rattle.repl_read.specs.Inner.Turns.{turn}
use Rattle.repl_read.proofs.CommentLemmas.{blanked_first}

abbrev AreHigh : List ℕ → Type 0
AreHigh bs = AllByRecursion (λ b. 128 ≤ b) bs

-- the bytes of a character beyond ASCII
high_choice : (a b : Bool) (x y z : List ℕ) → AreHigh x → AreHigh y → AreHigh z → AreHigh (cond a x (cond b y z))
high_choice true b x y z hx hy hz = hx
high_choice false true x y z hx hy hz = hy
high_choice false false x y z hx hy hz = hz

high_bytes : (c : ℕ) → 128 ≤ c → AreHigh (encode c)
unfolding encode
high_bytes c high =
    rw (le-ltb c 128 high)
    (high_choice (ltb c 2048) (ltb c 65536) _ _ _
    (omega arith, (omega arith, tt))
    (omega arith, (omega arith, (omega arith, tt)))
    (omega arith, (omega arith, (omega arith, (omega arith, tt)))))

-- they begin and end no comment and no string
turn_at_high : (inside : Inside) (b next : ℕ) → 128 ≤ b → turn_at inside b next ≡ None
turn_at_high Nothing b next high = rw (ne_eqb b 47 (omega arith)) refl
turn_at_high Words b next high = refl
turn_at_high Line b next high = refl
turn_at_high Block b next high = rw (ne_eqb b 42 (omega arith)) refl

turn_high : (inside : Inside) (b : ℕ) (more : List ℕ) → 128 ≤ b → turn inside b more ≡ None
turn_high inside b [] high = refl
turn_high inside b (next ∷ more) high = rw (turn_at_high inside b next high) refl

after_sign_high : (inside : Inside) (b : ℕ) → 128 ≤ b → after_sign inside b ≡ inside
after_sign_high Nothing b high = rw (ne_eqb b 34 (omega arith)) refl
after_sign_high Words b high = rw (ne_eqb b 34 (omega arith), ne_eqb b 10 (omega arith)) refl
after_sign_high Line b high = rw (ne_eqb b 10 (omega arith)) refl
after_sign_high Block b high = refl

-- what is seen of a byte beyond ASCII
abbrev seen_high : Inside → ℕ → ℕ
seen_high Nothing b = b
seen_high Words b = b
seen_high Line b = byte " "
seen_high Block b = byte " "

seen-high : (inside : Inside) (b next : ℕ) → 128 ≤ b → seen inside b next ≡ seen_high inside b
seen-high Nothing b next high = refl
seen-high Words b next high = refl
seen-high Line b next high = rw (ne_eqb b 10 (omega arith), ne_eqb b 13 (omega arith)) refl
seen-high Block b next high = rw (ne_eqb b 10 (omega arith), ne_eqb b 13 (omega arith)) refl

-- bytes beyond ASCII are seen one by one
blanked_high :
    (inside : Inside) (hs rest : List ℕ) → AreHigh hs →
    blanked inside (hs ++ rest) ≡ map (seen_high inside) hs ++ blanked inside rest
blanked_high inside [] rest high = refl
blanked_high inside (h ∷ hs) rest high =
    blanked_first inside h (hs ++ rest)
    ∙ rw (
      turn_high inside h (hs ++ rest) high.0,
      after_sign_high inside h high.0,
      seen-high inside h (get_or (hs ++ rest) 0 0) high.0,
    )
    (ap (λ xs. seen_high inside h ∷ xs) (blanked_high inside hs rest high.1))

same_bytes : (hs : List ℕ) → map (λ b. b) hs ≡ hs
same_bytes [] = refl
same_bytes (h ∷ hs) = ap (λ xs. h ∷ xs) (same_bytes hs)

blanks_ascii : (hs : List ℕ) → IsAscii (map (λ (b : ℕ). 32) hs)
blanks_ascii [] = IsAscii-nil
blanks_ascii (h ∷ hs) = IsAscii-cons 32 (map (λ (b : ℕ). 32) hs) (lit< tt) (blanks_ascii hs)

seen_utf8 : (inside : Inside) (hs : List ℕ) → IsUtf8 hs → IsUtf8 (map (seen_high inside) hs)
seen_utf8 Nothing hs text = rw (same_bytes hs) text
seen_utf8 Words hs text = rw (same_bytes hs) text
seen_utf8 Line hs text = IsUtf8-from_ascii _ (blanks_ascii hs)
seen_utf8 Block hs text = IsUtf8-from_ascii _ (blanks_ascii hs)

-- what is seen of a byte of ASCII is one
low_choice : (t : Bool) (b : ℕ) → b < 128 → cond t b 32 < 128
low_choice true b low = low
low_choice false b low = lit< tt

seen_low : (inside : Inside) (b next : ℕ) → b < 128 → seen inside b next < 128
seen_low Nothing b next low = low
seen_low Words b next low = low
seen_low Line b next low = low_choice (ends_line b next) b low
seen_low Block b next low = low_choice (ends_line b next) b low

pub neither : (s t : Bool) → cond (s && false) (Some Line) (cond (t && false) (Some Block) None) ≡ None
neither true true = refl
neither true false = refl
neither false true = refl
neither false false = refl

pub never : (t : Bool) → cond (t && false) (Some Nothing) None ≡ None
never true = refl
never false = refl

turn_at_next_high : (inside : Inside) (b next : ℕ) → 128 ≤ next → turn_at inside b next ≡ None
turn_at_next_high Nothing b next high =
    rw (ne_eqb next 47 (omega arith), ne_eqb next 42 (omega arith)) (neither (b == byte "/") (b == byte "/"))
turn_at_next_high Words b next high = refl
turn_at_next_high Line b next high = refl
turn_at_next_high Block b next high = rw (ne_eqb next 47 (omega arith)) (never (b == byte "*"))

turn_next_high :
    (inside : Inside) (b : ℕ) (hs rest : List ℕ) → AreHigh hs → 0 < length hs → turn inside b (hs ++ rest) ≡ None
turn_next_high inside b [] rest high some = absurd (omega arith)
turn_next_high inside b (h ∷ hs) rest high some = rw (turn_at_next_high inside b h high.0) refl

two_blanks : IsAscii (32 ∷ 32 ∷ [])
two_blanks = IsAscii-cons 32 (32 ∷ []) (lit< tt) (IsAscii-cons 32 [] (lit< tt) IsAscii-nil)

blank_and_star : IsAscii (32 ∷ 42 ∷ [])
blank_and_star = IsAscii-cons 32 (42 ∷ []) (lit< tt) (IsAscii-cons 42 [] (lit< tt) IsAscii-nil)

marks_choice : (b : Bool) → IsAscii (cond b (32 ∷ 32 ∷ []) (32 ∷ 42 ∷ []))
marks_choice true = two_blanks
marks_choice false = blank_and_star

marks_ascii : (inside : Inside) (rest : List ℕ) → IsAscii (marks inside rest)
marks_ascii Nothing rest = two_blanks
marks_ascii Words rest = two_blanks
marks_ascii Line rest = two_blanks
marks_ascii Block rest = marks_choice (closes rest)

-- two signs are taken, both ASCII, or one is
abbrev Taken : Inside → ℕ → List ℕ → Type 0
Taken inside c cs =
    (turn inside c (encodes cs) ≡ None)
    ⊎ ((then_ : Inside) × (e : ℕ) × (es : List ℕ) × (cs ≡ e ∷ es)
    × (turn inside c (encodes cs) ≡ Some (then_, encodes es)))

taken_of :
    (o : Option Inside) (inside : Inside) (c e : ℕ) (es : List ℕ) →
    turn inside c (encodes (e ∷ es)) ≡ option_map (λ then_. (then_, encodes es)) o → Taken inside c (e ∷ es)
taken_of None inside c e es is = inl is
taken_of (Some then_) inside c e es is = inr (then_, e, es, refl, is)

taken : (inside : Inside) (c : ℕ) (cs : List ℕ) → Taken inside c cs
taken inside c [] = inl refl
taken inside c (e ∷ es) =
    elim (cases_lt e 128) [
      | inl low ↦ taken_of (turn_at inside c e) inside c e es (rw (encode_ascii e low) refl)
      | inr high ↦
          inl
          (turn_next_high inside c (encode e) (encodes es) (high_bytes e high)
          (omega (arith, length-encode e, (len_utf8_bounds e).0)))
    ]

kept_low :
    (inside : Inside) (c : ℕ) (cs : List ℕ) → c < 128 → Taken inside c cs →
    ((inside : Inside) → IsUtf8 (blanked inside (encodes cs))) →
    ((e : ℕ) (es : List ℕ) → cs ≡ e ∷ es → (inside : Inside) → IsUtf8 (blanked inside (encodes es))) →
    IsUtf8 (blanked inside (encodes (c ∷ cs)))
kept_low inside c cs low took one two =
    elim took [
      | inl alone ↦
          let next = get_or (encodes cs) 0 0 in
          let here :
          blanked inside (encodes (c ∷ cs)) ≡ seen inside c next ∷ blanked (after_sign inside c) (encodes cs) =
          rw (encode_ascii c low) (blanked_first inside c (encodes cs) ∙ rw alone refl) in
          let first =
          IsUtf8-from_ascii (seen inside c next ∷ [])
          (IsAscii-cons (seen inside c next) [] (seen_low inside c next low) IsAscii-nil) in
          rw here
          (IsUtf8-append (seen inside c next ∷ []) (blanked (after_sign inside c) (encodes cs)) first
          (one (after_sign inside c)))
      | inr both ↦
          let here :
          blanked inside (encodes (c ∷ cs)) ≡ marks both.0 (encodes both.2) ++ blanked both.0 (encodes both.2) =
          rw (encode_ascii c low) (blanked_first inside c (encodes cs) ∙ rw both.4 refl) in
          rw here
          (IsUtf8-append (marks both.0 (encodes both.2)) (blanked both.0 (encodes both.2))
          (IsUtf8-from_ascii _ (marks_ascii both.0 (encodes both.2))) (two both.1 both.2 both.3 both.0))
    ]

kept :
    (n : ℕ) (cs : List ℕ) → length cs ≤ n → scalars cs ≡ true → (inside : Inside) →
    IsUtf8 (blanked inside (encodes cs))
kept n [] fits ok inside = IsUtf8-nil
kept zero (c ∷ cs) fits ok inside = absurd (omega arith)
kept (suc n) (c ∷ cs) fits ok inside =
    let both = and_parts (scalar c) (scalars cs) ok in
    let shorter : length cs ≤ n = omega arith in
    let tail : (e : ℕ) (es : List ℕ) → cs ≡ e ∷ es → (inside : Inside) → IsUtf8 (blanked inside (encodes es)) =
    λ e es is. kept n es (omega (arith, ap length is)) (and_parts (scalar e) (scalars es) (rw is at both.1)).1 in
    elim (cases_lt c 128) [
      | inl low ↦ kept_low inside c cs low (taken inside c cs) (kept n cs shorter both.1) tail
      | inr high ↦
          rw (blanked_high inside (encode c) (encodes cs) (high_bytes c high))
          (IsUtf8-append _ _ (seen_utf8 inside (encode c) (IsUtf8-encode c both.0)) (kept n cs shorter both.1 inside))
    ]

-- a text with blanks for its comments is a text
pub blanked_utf8 : (inside : Inside) (bs : List ℕ) → IsUtf8 bs → IsUtf8 (blanked inside bs)
blanked_utf8 inside bs text = rw (← text.1.1) (kept (length text.0) text.0 (omega arith) text.1.0 inside)
