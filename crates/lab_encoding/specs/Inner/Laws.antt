-- The laws of the forms. Each form that is put together is lawful where its parts are.
use Rattle.std.proofs.Common.{◌≡◌, ◌<◌, ◌≤◌, ◌^◌, ◌+◌, ◌*◌, ◌/◌, ◌%◌, ◌⊎◌, inl, inr, ℕ, zero, suc, List, [], ◌∷◌}
use Rattle.std.proofs.Common.{◌++◌, length, take, drop, Option, Some, None, Bool, true, false, cond, eqb, ltb, eq-eqb}
use Rattle.std.proofs.Common.{refl, sym, ap, subst, ◌∙◌, append_assoc, arith}
use Rattle.std.specs.Prelude.{slice_index}
use Rattle.std.specs.List.{flat_map, AllByRecursion}
use Rattle.std.specs.Int.{byte_at, bytes_low_first}
use Rattle.std.specs.Str.{bytes_eq, is_utf8}
use Rattle.std.proofs.Math.Nat.{div-div-eq-div-mul, add-mul-mod_self_left, mod-eq_of_lt, pow-succ'}
use Rattle.std.proofs.lemmas.Bool.{ltb-false, le-ltb, eqb-true, cases_lt}
use Rattle.std.proofs.lemmas.List.{take_at, drop_at, take-append-drop, length-append, length-take, get_or-take}
use Rattle.std.proofs.lemmas.List.{get_or_past, get_or-append-add, nil_from_length, append-nil}
use Rattle.std.proofs.lemmas.Option.{none-some, same_Some, cond_some}
use Rattle.std.proofs.lemmas.Slice.Eq.{bytes_eq-Decides}
use Rattle.byteorder.specs.Endian.{little_bytes, little_number}
use Rattle.byteorder.specs.Numbers.{little_number-reads_back, length-bytes_low_first, little_from-lt, little_from-cons}
use Rattle.lab_encoding.specs.Form.{Form, IsBytes, IsLawful, Spells}
use Rattle.lab_encoding.specs.Reads.{Appends}
use Rattle.lab_encoding.specs.Combine.{◌>>=◌, byte_at_front, byte, number, ◌⊗◌, depend, shown, via, only, nothing}
use Rattle.lab_encoding.specs.Combine.{numbered, tagged, choice, to_flag, from_flag, flag, to_option, from_option}
use Rattle.lab_encoding.specs.Combine.{option}
use Rattle.lab_encoding.specs.Combine.{parse_times, times, bytes, list, text, after, marked, parse_each, each}

-- ---- tools

IsBytes-rest : (xs ys : List ℕ) → IsBytes (xs ++ ys) → IsBytes ys
IsBytes-rest xs ys h i = subst (λ (b : ℕ). b < 256) (get_or-append-add xs ys i 0) (h (length xs + i))

pub IsBytes-after : (bytes xs ys : List ℕ) → bytes ≡ xs ++ ys → IsBytes bytes → IsBytes ys
IsBytes-after bytes xs ys e h = IsBytes-rest xs ys (subst IsBytes e h)

IsBytes-take : (n : ℕ) (bytes : List ℕ) → IsBytes bytes → IsBytes (take n bytes)
IsBytes-take n bytes h i =
    elim (cases_lt i n) [
      | inl lt ↦ rw (get_or-take n bytes i 0 lt) (h i)
      | inr le ↦ rw (get_or_past (take n bytes) i 0 (omega (arith, length-take n bytes))) (omega arith)
    ]

-- the value of a step that gave one
pub bind_some : {A B : Type 0} (o : Option A) (f : A → Option B) (y : B) → (o >>= f) ≡ Some y →
    (x : A) × (o ≡ Some x) × (f x ≡ Some y)
bind_some (Some x) f y e = (x, refl, e)
bind_some None f y e = absurd cc

-- which way a test went
pub chosen : {A : Type 0} (b : Bool) (x y z : A) → cond b x y ≡ z → ((b ≡ true) × (x ≡ z)) ⊎ ((b ≡ false) × (y ≡ z))
chosen true x y z e = inl (refl, e)
chosen false x y z e = inr (refl, e)

front_is : (bytes : List ℕ) (y : ℕ × List ℕ) → byte_at_front bytes ≡ Some y → bytes ≡ y.0 ∷ y.1
front_is [] y e = absurd (none-some y e)
front_is (b ∷ bytes) y e = ap (λ (y : ℕ × List ℕ). y.0 ∷ y.1) (same_Some (b, bytes) y e)

-- two parts, one after the other
pub seam : (bytes xs rest ys after : List ℕ) → bytes ≡ xs ++ rest → rest ≡ ys ++ after → bytes ≡ (xs ++ ys) ++ after
seam bytes xs rest ys after e f = e ∙ ap (λ (l : List ℕ). xs ++ l) f ∙ sym (append_assoc xs ys after)

-- ---- numbers

pub byte_lawful : IsLawful byte
byte_lawful = record {
  takes = λ bytes y fits e. let h = front_is bytes y e in (h, subst (λ (l : List ℕ). slice_index l 0 < 256) h (fits 0));
  again = λ x rest fits. refl;
}

byte_at-suc : (i n : ℕ) → byte_at (suc i) n ≡ byte_at i (n / 256)
byte_at-suc zero n = refl
byte_at-suc (suc i) n =
    ap (λ (y : ℕ). y % 256)
    (ap (λ (p : ℕ). n / p) (pow-succ' 256 (suc i)) ∙ sym (div-div-eq-div-mul n 256 (256 ^ suc i)))

-- the bytes of a number above its lowest are those of the number over 256
bytes_low_first-suc : (i k n : ℕ) → bytes_low_first (suc i) k n ≡ bytes_low_first i k (n / 256)
bytes_low_first-suc i zero n = refl
bytes_low_first-suc i (suc k) n = let a = byte_at-suc i n in let b = bytes_low_first-suc (suc i) k n in cc

-- the bytes of the number that bytes stand for are those bytes
little_bytes-little_number : (n : ℕ) (bytes : List ℕ) → length bytes ≡ n → IsBytes bytes →
    little_bytes n (little_number n bytes) ≡ bytes
little_bytes-little_number zero bytes len fits = sym (nil_from_length bytes len)
little_bytes-little_number (suc n) [] len fits = absurd (omega arith)
little_bytes-little_number (suc n) (b ∷ bytes) len fits =
    let small : b < 256 = fits 0 in
    let low : (b + 256 * little_number n bytes) % 256 ≡ b =
    add-mul-mod_self_left b 256 (little_number n bytes) ∙ mod-eq_of_lt small in
    let high : (b + 256 * little_number n bytes) / 256 ≡ little_number n bytes = omega arith in
    let others = little_bytes-little_number n bytes (omega arith) (λ i. fits (suc i)) in
    rw (little_from-cons 0 n b bytes, bytes_low_first-suc 0 n (b + 256 * little_number n bytes), low, high, others) refl

pub number_lawful : (n : ℕ) → IsLawful (number n)
number_lawful n = record {
  takes = λ bytes y fits e. number_takes bytes y fits
      (chosen (ltb (length bytes) n) None (Some (little_number n (take n bytes), drop n bytes)) (Some y) e);
  again = λ x rest fits.
      let len : length (little_bytes n x) ≡ n = length-bytes_low_first 0 n x in
      let long : ltb (length (little_bytes n x ++ rest)) n ≡ false =
      le-ltb _ _ (omega (arith, length-append (little_bytes n x) rest)) in
      let back : little_number n (little_bytes n x) ≡ x =
      ap (little_number n) (sym (append-nil (little_bytes n x))) ∙ little_number-reads_back n x [] fits in
      rw (long, take_at (little_bytes n x) rest n len, drop_at (little_bytes n x) rest n len, back) refl;
}
  where
    number_takes : (bytes : List ℕ) (y : ℕ × List ℕ) → IsBytes bytes →
        ((ltb (length bytes) n ≡ true) × (None ≡ Some y)) ⊎
        ((ltb (length bytes) n ≡ false) × (Some (little_number n (take n bytes), drop n bytes) ≡ Some y)) →
        Spells (number n) bytes y
    number_takes bytes y fits (inl h) = absurd (none-some y h.1)
    number_takes bytes y fits (inr h) =
        let long : n ≤ length bytes = ltb-false _ _ h.0 in
        let front : little_bytes n (little_number n (take n bytes)) ≡ take n bytes =
        little_bytes-little_number n (take n bytes) (omega (arith, length-take n bytes)) (IsBytes-take n bytes fits) in
        subst (Spells (number n) bytes) (same_Some (little_number n (take n bytes), drop n bytes) y h.1)
        (rw front (sym (take-append-drop n bytes)), little_from-lt 0 n (take n bytes) (IsBytes-take n bytes fits))

-- ---- a byte that says which

-- the byte in front, and what follows from it
after_byte : {A : Type 0} (bytes : List ℕ) (f : ℕ × List ℕ → Option A) (y : A) →
    (byte_at_front bytes >>= f) ≡ Some y → (t : ℕ × List ℕ) × (bytes ≡ t.0 ∷ t.1) × (f t ≡ Some y)
after_byte bytes f y e = let b = bind_some (byte_at_front bytes) f y e in (b.0, front_is bytes b.0 b.1, b.2)

-- values that have numbers of their own
pub numbered_lawful : {X : Type 0} {to : X → ℕ} {from : ℕ → Option X} → ((x : X) → from (to x) ≡ Some x) →
    ((n : ℕ) (x : X) → from n ≡ Some x → n ≡ to x) → IsLawful (numbered to from)
numbered_lawful {to = to} {from = from} there back = record {
  takes = λ bytes y fits e.
      let b = after_byte bytes (λ b. from b.0 >>= λ x. Some (x, b.1)) y e in
      let x = bind_some (from b.0.0) (λ x. Some (x, b.0.1)) y b.2 in
      subst (Spells (numbered to from) bytes) (same_Some (x.0, b.0.1) y x.2)
      (b.1 ∙ ap (λ (n : ℕ). n ∷ b.0.1) (back b.0.0 x.0 x.1), tt);
  again = λ x rest fits. rw (there x) refl;
}

-- ---- structs

pub next_lawful : {A B : Type 0} {f : Form A} {g : Form B} → IsLawful f → IsLawful g → IsLawful (f ⊗ g)
next_lawful {f = f} {g = g} f_law g_law = record {
  takes = λ bytes y fits e.
      let a = bind_some (f.parse bytes) (λ a. g.parse a.1 >>= λ b. Some ((a.0, b.0), b.1)) y e in
      let b = bind_some (g.parse a.0.1) (λ b. Some ((a.0.0, b.0), b.1)) y a.2 in
      let ta = f_law.takes bytes a.0 fits a.1 in
      let tb = g_law.takes a.0.1 b.0 (IsBytes-after bytes (f.spell a.0.0) a.0.1 ta.0 fits) b.1 in
      subst (Spells (f ⊗ g) bytes) (same_Some ((a.0.0, b.0.0), b.0.1) y b.2)
      (seam bytes (f.spell a.0.0) a.0.1 (g.spell b.0.0) b.0.1 ta.0 tb.0, (ta.1, tb.1));
  again = λ x rest fits. rw
      (append_assoc, f_law.again x.0 (g.spell x.1 ++ rest) fits.0, g_law.again x.1 rest fits.1) refl;
}

pub depend_lawful : {A B : Type 0} {f : Form A} {g : A → Form B} → IsLawful f →
    ((a : A) → f.Fits a → IsLawful (g a)) → IsLawful (depend f g)
depend_lawful {f = f} {g = g} f_law g_law = record {
  takes = λ bytes y fits e.
      let a = bind_some (f.parse bytes) (λ a. (g a.0).parse a.1 >>= λ b. Some ((a.0, b.0), b.1)) y e in
      let b = bind_some ((g a.0.0).parse a.0.1) (λ b. Some ((a.0.0, b.0), b.1)) y a.2 in
      let ta = f_law.takes bytes a.0 fits a.1 in
      let tb = (g_law a.0.0 ta.1).takes a.0.1 b.0 (IsBytes-after bytes (f.spell a.0.0) a.0.1 ta.0 fits) b.1 in
      subst (Spells (depend f g) bytes) (same_Some ((a.0.0, b.0.0), b.0.1) y b.2)
      (seam bytes (f.spell a.0.0) a.0.1 ((g a.0.0).spell b.0.0) b.0.1 ta.0 tb.0, (ta.1, tb.1));
  again = λ x rest fits. rw
      (append_assoc, f_law.again x.0 ((g x.0).spell x.1 ++ rest) fits.0, (g_law x.0 fits.0).again x.1 rest fits.1) refl;
}

pub shown_lawful : {X A : Type 0} (Fits : X → Type 0) (to : X → A) (from : A → X) {f : Form A} →
    ((x : X) → Fits x → f.Fits (to x)) → ((x : X) → Fits x → from (to x) ≡ x) →
    ((a : A) → f.Fits a → Fits (from a)) → ((a : A) → f.Fits a → to (from a) ≡ a) → IsLawful f →
    IsLawful (shown Fits to from f)
shown_lawful Fits to from {f = f} into from_to out to_from f_law = record {
  takes = λ bytes y fits e.
      let a = bind_some (f.parse bytes) (λ a. Some (from a.0, a.1)) y e in
      let t = f_law.takes bytes a.0 fits a.1 in
      subst (Spells (shown Fits to from f) bytes) (same_Some (from a.0.0, a.0.1) y a.2)
      (rw (to_from a.0.0 t.1) t.0, out a.0.0 t.1);
  again = λ x rest fits. rw (f_law.again (to x) rest (into x fits), from_to x fits) refl;
}

pub via_lawful : {X A : Type 0} (to : X → A) (from : A → X) {f : Form A} → ((x : X) → from (to x) ≡ x) →
    ((a : A) → to (from a) ≡ a) → IsLawful f → IsLawful (via to from f)
via_lawful to from {f = f} from_to to_from f_law =
    shown_lawful (λ x. f.Fits (to x)) to from (λ x fits. fits) (λ x fits. from_to x)
    (λ a fits. subst f.Fits (sym (to_from a)) fits) (λ a fits. to_from a) f_law

pub only_lawful : {X : Type 0} (test : X → Bool) {f : Form X} → IsLawful f → IsLawful (only test f)
only_lawful test {f = f} f_law = record {
  takes = λ bytes y fits e.
      let a = bind_some (f.parse bytes) (λ a. cond (test a.0) (Some a) None) y e in
      let c = cond_some (test a.0.0) a.0 y a.2 in
      let t = f_law.takes bytes a.0 fits a.1 in
      subst (Spells (only test f) bytes) c.1 (t.0, (t.1, c.0));
  again = λ x rest fits. rw (f_law.again x rest fits.0, fits.1) refl;
}

-- what stands after a mark
after_takes : (mark bytes rest : List ℕ) → after mark bytes ≡ Some rest → bytes ≡ mark ++ rest
after_takes mark bytes rest e =
    let front : List ℕ = take (length mark) bytes in
    let c = cond_some (bytes_eq front mark) (drop (length mark) bytes) rest e in
    let is : front ≡ mark = (bytes_eq-Decides front mark).0 c.0 in
    sym (take-append-drop (length mark) bytes) ∙ ap (λ (l : List ℕ). l ++ drop (length mark) bytes) is
    ∙ ap (λ (l : List ℕ). mark ++ l) c.1

after_again : (mark rest : List ℕ) → after mark (mark ++ rest) ≡ Some rest
after_again mark rest =
    rw
    (take_at mark rest (length mark) refl, drop_at mark rest (length mark) refl, (bytes_eq-Decides mark mark).1 refl)
    refl

pub marked_lawful : {A : Type 0} (mark : List ℕ) {f : Form A} → IsLawful f → IsLawful (marked mark f)
marked_lawful mark {f = f} f_law = record {
  takes = λ bytes y fits e.
      let a = bind_some (after mark bytes) f.parse y e in
      let front = after_takes mark bytes a.0 a.1 in
      let t = f_law.takes a.0 y (IsBytes-after bytes mark a.0 front fits) a.2 in
      (seam bytes mark a.0 (f.spell y.0) y.1 front t.0, t.1);
  again = λ x rest fits. rw (append_assoc, after_again mark (f.spell x ++ rest)) (f_law.again x rest fits);
}

-- ---- enums

pub nothing_lawful : IsLawful nothing
nothing_lawful = record {
  takes = λ bytes y fits e. (ap (λ (y : Unit {0} × List ℕ). y.1) (same_Some (tt, bytes) y e), tt);
  again = λ x rest fits. refl;
}

pub tagged_lawful : {A : Type 0} (tag : ℕ) {f : Form A} → IsLawful f → IsLawful (tagged tag f)
tagged_lawful tag {f = f} f_law = record {
  takes = λ bytes y fits e.
      let b = after_byte bytes (λ t. cond (eqb t.0 tag) (f.parse t.1) None) y e in
      let c = taken (eqb b.0.0 tag) (f.parse b.0.1) y b.2 in
      let t = f_law.takes b.0.1 y (IsBytes-after bytes (b.0.0 ∷ []) b.0.1 b.1 fits) c.1 in
      (b.1 ∙ rw (eqb-true b.0.0 tag c.0) (ap (λ (l : List ℕ). tag ∷ l) t.0), t.1);
  again = λ x rest fits. rw (eq-eqb tag tag refl) (f_law.again x rest fits);
}
  where
    taken : {Y : Type 0} (c : Bool) (o : Option Y) (y : Y) → cond c o None ≡ Some y → (c ≡ true) × (o ≡ Some y)
    taken true o y e = (refl, e)
    taken false o y e = absurd (none-some y e)

-- no value's spelling begins with the tag
abbrev pub Avoids : {B : Type 0} → ℕ → Form B → Type 0
Avoids {B} tag g = (b : B) → (t : ℕ) × (rest : List ℕ) × (g.spell b ≡ t ∷ rest) × (eqb t tag ≡ false)

pub choice_lawful : {A B : Type 0} (tag : ℕ) {f : Form A} {g : Form B} → Avoids tag g → IsLawful f → IsLawful g →
    IsLawful (choice tag f g)
choice_lawful {A = A} {B = B} tag {f = f} {g = g} avoids f_law g_law = record {
  takes = λ bytes y fits e.
      let b = after_byte bytes (λ t. cond (eqb t.0 tag) (first t.1) (other bytes)) y e in
      choice_takes bytes b.0.0 b.0.1 y fits b.1 (chosen (eqb b.0.0 tag) (first b.0.1) (other bytes) (Some y) b.2);
  again = elim [
    | inl a ↦ λ rest fits. rw (eq-eqb tag tag refl, f_law.again a rest fits) refl
    | inr b ↦ λ rest fits.
        let h = avoids b in
        let front : byte_at_front (g.spell b ++ rest) ≡ Some (h.0, h.1 ++ rest) =
        ap (λ (l : List ℕ). byte_at_front (l ++ rest)) h.2 in
        rw (front, h.3, g_law.again b rest fits) refl
  ];
}
  where
    first : List ℕ → Option ((A ⊎ B) × List ℕ)
    first after = f.parse after >>= λ a. Some (inl a.0, a.1)

    other : List ℕ → Option ((A ⊎ B) × List ℕ)
    other bytes = g.parse bytes >>= λ b. Some (inr b.0, b.1)

    choice_takes : (bytes : List ℕ) (t : ℕ) (after : List ℕ) (y : (A ⊎ B) × List ℕ) → IsBytes bytes → bytes ≡ t ∷ after
        → ((eqb t tag ≡ true) × (first after ≡ Some y)) ⊎ ((eqb t tag ≡ false) × (other bytes ≡ Some y)) →
        Spells (choice tag f g) bytes y
    choice_takes bytes t after y fits e (inl h) =
        let a = bind_some (f.parse after) (λ a. Some (inl a.0, a.1)) y h.1 in
        let ta = f_law.takes after a.0 (IsBytes-after bytes (t ∷ []) after e fits) a.1 in
        subst (Spells (choice tag f g) bytes) (same_Some (inl a.0.0, a.0.1) y a.2)
        (e ∙ rw (eqb-true t tag h.0) (ap (λ (l : List ℕ). tag ∷ l) ta.0), ta.1)
    choice_takes bytes t after y fits e (inr h) =
        let b = bind_some (g.parse bytes) (λ b. Some (inr b.0, b.1)) y h.1 in
        subst (Spells (choice tag f g) bytes) (same_Some (inr b.0.0, b.0.1) y b.2) (g_law.takes bytes b.0 fits b.1)

-- the spelling of a variant begins with its own place, and with no other
pub avoids_tagged : {A : Type 0} (f : Form A) (tag other : ℕ) → eqb other tag ≡ false → Avoids tag (tagged other f)
avoids_tagged f tag other apart a = (other, f.spell a, refl, apart)

pub avoids_choice : {A B : Type 0} (f : Form A) (g : Form B) (tag other : ℕ) → eqb other tag ≡ false → Avoids tag g →
    Avoids tag (choice other f g)
avoids_choice f g tag other apart avoids (inl a) = (other, f.spell a, refl, apart)
avoids_choice f g tag other apart avoids (inr b) = avoids b

pub flag_lawful : IsLawful flag
flag_lawful =
    via_lawful to_flag from_flag (elim [ true ↦ refl | false ↦ refl ]) (elim [ inl a ↦ refl | inr b ↦ refl ])
    (choice_lawful 0 (λ b. (1, [], refl, refl)) nothing_lawful (tagged_lawful 1 nothing_lawful))

pub option_lawful : {A : Type 0} {f : Form A} → IsLawful f → IsLawful (option f)
option_lawful {f = f} f_law =
    via_lawful to_option from_option (elim [ None ↦ refl | Some x ↦ refl ]) (elim [ inl a ↦ refl | inr b ↦ refl ])
    (choice_lawful 0 (λ b. (1, f.spell b, refl, refl)) nothing_lawful (tagged_lawful 1 f_law))

-- ---- lists

parse_times_takes : {A : Type 0} (f : Form A) → IsLawful f → (n : ℕ) (bytes : List ℕ) (y : List A × List ℕ) →
    IsBytes bytes → parse_times f n bytes ≡ Some y → Spells (times n f) bytes y
unfolding parse_times
parse_times_takes f f_law zero bytes y fits e =
    subst (Spells (times 0 f) bytes) (same_Some ([], bytes) y e) (refl, (refl, tt))
parse_times_takes f f_law (suc n) bytes y fits e =
    let a = bind_some (f.parse bytes) (λ a. parse_times f n a.1 >>= λ others. Some (a.0 ∷ others.0, others.1)) y e in
    let o = bind_some (parse_times f n a.0.1) (λ others. Some (a.0.0 ∷ others.0, others.1)) y a.2 in
    let ta = f_law.takes bytes a.0 fits a.1 in
    let to = parse_times_takes f f_law n a.0.1 o.0 (IsBytes-after bytes (f.spell a.0.0) a.0.1 ta.0 fits) o.1 in
    let len : length (a.0.0 ∷ o.0.0) ≡ suc n = ap suc to.1.0 in
    subst (Spells (times (suc n) f) bytes) (same_Some (a.0.0 ∷ o.0.0, o.0.1) y o.2)
    (seam bytes (f.spell a.0.0) a.0.1 (flat_map f.spell o.0.0) o.0.1 ta.0 to.0, (len, (ta.1, to.1.1)))

parse_times_again : {A : Type 0} (f : Form A) → IsLawful f → (xs : List A) (rest : List ℕ) →
    AllByRecursion f.Fits xs → parse_times f (length xs) (flat_map f.spell xs ++ rest) ≡ Some (xs, rest)
unfolding parse_times
parse_times_again f f_law [] rest fits = refl
parse_times_again f f_law (x ∷ xs) rest fits =
    rw (append_assoc, f_law.again x (flat_map f.spell xs ++ rest) fits.0, parse_times_again f f_law xs rest fits.1) refl

pub times_lawful : {A : Type 0} (n : ℕ) {f : Form A} → IsLawful f → IsLawful (times n f)
times_lawful n {f = f} f_law = record {
  takes = λ bytes y fits e. parse_times_takes f f_law n bytes y fits e;
  again = λ xs rest fits. rw (← fits.0) (parse_times_again f f_law xs rest fits.1);
}

pub all_bytes : (xs : List ℕ) → IsBytes xs → AllByRecursion (λ b. b < 256) xs
all_bytes [] fits = tt
all_bytes (x ∷ xs) fits = (fits 0, all_bytes xs (λ i. fits (suc i)))

pub bytes_lawful : (n : ℕ) → IsLawful (bytes n)
bytes_lawful n = record {
  takes = λ text y fits e. bytes_takes text y fits
      (chosen (ltb (length text) n) None (Some (take n text, drop n text)) (Some y) e);
  again = λ xs rest fits.
      let long : ltb (length (xs ++ rest)) n ≡ false =
      let len : length xs ≡ n = fits.0 in le-ltb _ _ (omega (arith, length-append xs rest)) in
      rw (long, take_at xs rest n fits.0, drop_at xs rest n fits.0) refl;
}
  where
    bytes_takes : (text : List ℕ) (y : List ℕ × List ℕ) → IsBytes text →
        ((ltb (length text) n ≡ true) × (None ≡ Some y)) ⊎
        ((ltb (length text) n ≡ false) × (Some (take n text, drop n text) ≡ Some y)) → Spells (bytes n) text y
    bytes_takes text y fits (inl h) = absurd (none-some y h.1)
    bytes_takes text y fits (inr h) =
        let long : n ≤ length text = ltb-false _ _ h.0 in
        let len : length (take n text) ≡ n = omega (arith, length-take n text) in
        subst (Spells (bytes n) text) (same_Some (take n text, drop n text) y h.1)
        (sym (take-append-drop n text), (len, all_bytes (take n text) (IsBytes-take n text fits)))

pub list_lawful : {A : Type 0} {f : Form A} → IsLawful f → IsLawful (list f)
list_lawful {f = f} f_law = record {
  takes = λ bytes y fits e.
      let n = bind_some ((number 8).parse bytes) (λ n. parse_times f n.0 n.1) y e in
      let tn = (number_lawful 8).takes bytes n.0 fits n.1 in
      let ty = parse_times_takes f f_law n.0.0 n.0.1 y
      (IsBytes-after bytes (little_bytes 8 n.0.0) n.0.1 tn.0 fits) n.2 in
      rw ty.1.0 (seam bytes (little_bytes 8 n.0.0) n.0.1 (flat_map f.spell y.0) y.1 tn.0 ty.0, (tn.1, ty.1.1));
  again = λ xs rest fits. rw (append_assoc, (number_lawful 8).again (length xs) (flat_map f.spell xs ++ rest) fits.0)
      (parse_times_again f f_law xs rest fits.1);
}

parse_each_takes : {K A : Type 0} (f : K → Form A) (ks : List K) (bytes : List ℕ) (y : List A × List ℕ) →
    AllByRecursion (λ k. IsLawful (f k)) ks → IsBytes bytes → parse_each f ks bytes ≡ Some y →
    Spells (each f ks) bytes y
unfolding parse_each
parse_each_takes f [] bytes y laws fits e =
    subst (Spells (each f []) bytes) (same_Some ([], bytes) y e) (refl, (refl, tt))
parse_each_takes f (k ∷ ks) bytes y laws fits e =
    let a = bind_some ((f k).parse bytes)
    (λ a. parse_each f ks a.1 >>= λ others. Some (a.0 ∷ others.0, others.1)) y e in
    let o = bind_some (parse_each f ks a.0.1) (λ others. Some (a.0.0 ∷ others.0, others.1)) y a.2 in
    let ta = laws.0.takes bytes a.0 fits a.1 in
    let to = parse_each_takes f ks a.0.1 o.0 laws.1 (IsBytes-after bytes ((f k).spell a.0.0) a.0.1 ta.0 fits) o.1 in
    let len : length (a.0.0 ∷ o.0.0) ≡ length (k ∷ ks) = ap suc to.1.0 in
    subst (Spells (each f (k ∷ ks)) bytes) (same_Some (a.0.0 ∷ o.0.0, o.0.1) y o.2)
    (seam bytes ((f k).spell a.0.0) a.0.1 ((each f ks).spell o.0.0) o.0.1 ta.0 to.0, (len, (ta.1, to.1.1)))

parse_each_again : {K A : Type 0} (f : K → Form A) (ks : List K) (xs : List A) (rest : List ℕ) →
    AllByRecursion (λ k. IsLawful (f k)) ks → (each f ks).Fits xs →
    parse_each f ks ((each f ks).spell xs ++ rest) ≡ Some (xs, rest)
unfolding parse_each
parse_each_again f [] [] rest laws fits = refl
parse_each_again f [] (x ∷ xs) rest laws fits = absurd (omega (arith, fits.0))
parse_each_again f (k ∷ ks) [] rest laws fits = absurd (omega (arith, fits.0))
parse_each_again f (k ∷ ks) (x ∷ xs) rest laws fits =
    let len : length xs ≡ length ks = omega (arith, fits.0) in
    rw (
      append_assoc,
      laws.0.again x ((each f ks).spell xs ++ rest) fits.1.0,
      parse_each_again f ks xs rest laws.1 (len, fits.1.1),
    ) refl

pub each_lawful : {K A : Type 0} (f : K → Form A) (ks : List K) → AllByRecursion (λ k. IsLawful (f k)) ks →
    IsLawful (each f ks)
each_lawful f ks laws = record {
  takes = λ bytes y fits e. parse_each_takes f ks bytes y laws fits e;
  again = λ xs rest fits. parse_each_again f ks xs rest laws fits;
}

-- ---- writing

-- one part was written, and then the others
pub appended : {old mid new xs ys : List ℕ} → Appends old mid xs → Appends mid new ys → Appends old new (xs ++ ys)
appended {old = old} {xs = xs} {ys = ys} e f =
    record { parts = f.parts ∙ ap (λ (l : List ℕ). l ++ ys) e.parts ∙ append_assoc old xs ys }

-- ---- texts

pub text_lawful : IsLawful text
unfolding text
text_lawful = only_lawful is_utf8 (list_lawful byte_lawful)

-- ---- one spelling

pub one : {X : Type 0} {f : Form X} → IsLawful f → (a b : X) (x y : List ℕ) → f.Fits a → f.Fits b →
    f.spell a ++ x ≡ f.spell b ++ y → (a ≡ b) × (x ≡ y)
one {X} {f = f} f_law a b x y fits_a fits_b e =
    let same : (a, x) ≡ (b, y) =
    same_Some (a, x) (b, y) (sym (f_law.again a x fits_a) ∙ ap f.parse e ∙ f_law.again b y fits_b) in
    (ap (λ (p : X × List ℕ). p.0) same, ap (λ (p : X × List ℕ). p.1) same)
