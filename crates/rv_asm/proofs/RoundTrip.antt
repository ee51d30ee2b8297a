-- A word is put together again from its fields, by format.
use Rattle.std.proofs.Common.{◌≡◌, ℕ, ◌+◌, ◌-◌, ◌*◌, ◌^◌, ◌<◌, ◌↔◌, suc, Bool, true, false, refl, ap, inl, inr, List}
use Rattle.std.proofs.Common.{[], ◌∷◌, arith}
use Rattle.std.specs.Prelude.{Option, Some, None, nat_lt, if◌then◌else◌, find, Contains}
use Rattle.std.proofs.lemmas.Bool.{cases_Bool}
use Rattle.std.specs.Option.{option_map}
use Rattle.std.proofs.lemmas.Option.{same_Some}
use Rattle.rv_decode.specs.declared.instruction.Op.{Op}
use Rattle.rv_decode.specs.declared.instruction.Format.{Format}
use Rattle.rv_decode.specs.declared.instruction.Format.TheVariants.{R, I, IShift, IUnsigned, S, B, U, J, Fixed}
use Rattle.rv_decode.specs.declared.instruction.Instr.{Instr}
use Rattle.rv_decode.specs.Immediate.{field, sign_extended}
use Rattle.rv_decode.specs.Table.{Row, table, matches, matched_row, row_of}
use Rattle.rv_decode.specs.FixedBits.{fixed_of}
use Rattle.rv_decode.specs.Means.{means, fields_by}
use Rattle.rv_decode.proofs.Formats.{op-fields_by}
use Rattle.rv_asm.specs.Encoded.{encoded, encoded_by, placed_s, placed_b, placed_j}

-- the fixed bits of the fixed bits
fixed_twice : (f : Format) (w : ℕ) → fixed_of f (fixed_of f w) ≡ fixed_of f w
fixed_twice R w = omega arith
fixed_twice I w = omega arith
fixed_twice IShift w = omega arith
fixed_twice IUnsigned w = omega arith
fixed_twice S w = omega arith
fixed_twice B w = omega arith
fixed_twice U w = omega arith
fixed_twice J w = omega arith
fixed_twice Fixed w = refl

-- what holds of both of two numbers
either : (P : ℕ → Type 0) (b : Bool) (x y : ℕ) → P x → P y → P (if b then x else y)
either P true x y p q = p
either P false x y p q = q

-- a sign-extended number has the fields of the number
low_12 : (n : ℕ) → n < 2 ^ 12 → field (sign_extended 12 n) 0 12 ≡ n
low_12 n fits =
    either (λ v. field v 0 12 ≡ n) (nat_lt n (2 ^ 11)) n (n + (2 ^ 32 - 2 ^ 12)) (omega arith) (omega arith)

placed_s-extended : (high low : ℕ) → high < 2 ^ 7 → low < 2 ^ 5 →
    placed_s (sign_extended 12 (high * 2 ^ 5 + low)) ≡ low * 2 ^ 7 + high * 2 ^ 25
placed_s-extended high low h l =
    let n = high * 2 ^ 5 + low in
    either (λ v. placed_s v ≡ low * 2 ^ 7 + high * 2 ^ 25) (nat_lt n (2 ^ 11)) n (n + (2 ^ 32 - 2 ^ 12))
    (omega arith) (omega arith)

placed_b-extended : (a b c d : ℕ) → a < 2 → b < 2 → c < 2 ^ 6 → d < 2 ^ 4 →
    placed_b (sign_extended 13 (a * 2 ^ 12 + b * 2 ^ 11 + c * 2 ^ 5 + d * 2))
    ≡ b * 2 ^ 7 + d * 2 ^ 8 + c * 2 ^ 25 + a * 2 ^ 31
placed_b-extended a b c d ha hb hc hd =
    let n = a * 2 ^ 12 + b * 2 ^ 11 + c * 2 ^ 5 + d * 2 in
    either (λ v. placed_b v ≡ b * 2 ^ 7 + d * 2 ^ 8 + c * 2 ^ 25 + a * 2 ^ 31)
    (nat_lt n (2 ^ 12)) n (n + (2 ^ 32 - 2 ^ 13)) (omega arith) (omega arith)

placed_j-extended : (a b c d : ℕ) → a < 2 → b < 2 ^ 8 → c < 2 → d < 2 ^ 10 →
    placed_j (sign_extended 21 (a * 2 ^ 20 + b * 2 ^ 12 + c * 2 ^ 11 + d * 2))
    ≡ b * 2 ^ 12 + c * 2 ^ 20 + d * 2 ^ 21 + a * 2 ^ 31
placed_j-extended a b c d ha hb hc hd =
    let n = a * 2 ^ 20 + b * 2 ^ 12 + c * 2 ^ 11 + d * 2 in
    either (λ v. placed_j v ≡ b * 2 ^ 12 + c * 2 ^ 20 + d * 2 ^ 21 + a * 2 ^ 31)
    (nat_lt n (2 ^ 20)) n (n + (2 ^ 32 - 2 ^ 21)) (omega arith) (omega arith)

-- a word's fixed bits and fields make the word
put_together : (f : Format) (op : Op) (w : ℕ) → w < 2 ^ 32 → encoded_by f (fixed_of f w) (fields_by f op w) ≡ w
put_together R op w fits = omega arith
put_together I op w fits = rw (low_12 (field w 20 12) (omega arith)) (omega arith)
put_together IShift op w fits = omega arith
put_together IUnsigned op w fits = omega arith
put_together S op w fits =
    rw (placed_s-extended (field w 25 7) (field w 7 5) (omega arith) (omega arith)) (omega arith)
put_together B op w fits =
    rw
    (placed_b-extended (field w 31 1) (field w 7 1) (field w 25 6) (field w 8 4) (omega arith) (omega arith)
    (omega arith) (omega arith))
    (omega arith)
put_together U op w fits = omega arith
put_together J op w fits =
    rw
    (placed_j-extended (field w 31 1) (field w 12 8) (field w 20 1) (field w 21 10) (omega arith) (omega arith)
    (omega arith) (omega arith))
    (omega arith)
put_together Fixed op w fits = refl

-- a row that is found is in the table
Contains-found : (p : Row → Bool) (rs : List Row) (r : Row) → find p rs ≡ Some r → Contains rs r
Contains-found p [] r found = cc
Contains-found p (s ∷ rs) r found =
    elim (cases_Bool (p s)) [
      | inl here ↦
          let one : Some s ≡ Some r = rw here at found in
          let same : s ≡ r = cc in
          (0, omega arith, same)
      | inr other ↦
          let rest = Contains-found p rs r (rw other at found) in
          (suc rest.0, omega (arith, rest.1), rest.2)
    ]

Contains-matched_row : (w : ℕ) (r : Row) → matched_row w ≡ Some r → Contains table r
unfolding matched_row
Contains-matched_row w r found = Contains-found (matches w) table r found

by_row :
    (found : Option Row) (w : ℕ) (i : Instr) → w < 2 ^ 32 →
    ((r : Row) → found ≡ Some r → (row_of r.op ≡ Some r) × (fixed_of r.format w ≡ r.bits)) →
    option_map (λ row. fields_by row.format row.op w) found ≡ Some i → encoded i ≡ Some w
unfolding encoded
by_row None w i fits facts is = cc
by_row (Some r) w i fits facts is =
    let same : fields_by r.format r.op w ≡ i = cc in
    let own = (facts r refl).0 in
    let fixed = (facts r refl).1 in
    rw (← same, op-fields_by r.format r.op w, own, ← fixed, fixed_twice r.format w)
    (ap Some (put_together r.format r.op w fits))

-- the word that means an instruction is the instruction's
pub encoded-means :
    (w : ℕ) (i : Instr) → w < 2 ^ 32 →
    ((row : Row) → Contains table row → row_of row.op ≡ Some row) →
    ((word : ℕ) → (row : Row) → word < 2 ^ 32 → Contains table row →
    (matched_row word ≡ Some row) ↔ (fixed_of row.format word ≡ row.bits)) →
    means w ≡ Some i → encoded i ≡ Some w
unfolding means
encoded-means w i fits own fields is =
    by_row (matched_row w) w i fits
    (λ r found.
    let there = Contains-matched_row w r found in (own r there, (fields w r fits there).0 found))
    is

-- ---- from an instruction's fields to its word

-- the fixed bits of a format, from opcode, funct3 and funct7
abbrev pub fixed_by : Format → ℕ → ℕ → ℕ → ℕ
fixed_by R a b c = a + b * 2 ^ 12 + c * 2 ^ 25
fixed_by I a b c = a + b * 2 ^ 12
fixed_by IShift a b c = a + b * 2 ^ 12 + c * 2 ^ 25
fixed_by IUnsigned a b c = a + b * 2 ^ 12
fixed_by S a b c = a + b * 2 ^ 12
fixed_by B a b c = a + b * 2 ^ 12
fixed_by U a b c = a
fixed_by J a b c = a
fixed_by Fixed a b c = a + b * 2 ^ 12 + c * 2 ^ 25

-- a format that has fields
abbrev pub HasFields : Format → Type 0
HasFields f = f ≡ Fixed → ⊥

fixed_of-fields :
    (f : Format) (w : ℕ) → HasFields f → fixed_of f w ≡ fixed_by f (field w 0 7) (field w 12 3) (field w 25 7)
fixed_of-fields R w some = refl
fixed_of-fields I w some = refl
fixed_of-fields IShift w some = refl
fixed_of-fields IUnsigned w some = refl
fixed_of-fields S w some = refl
fixed_of-fields B w some = refl
fixed_of-fields U w some = refl
fixed_of-fields J w some = refl
fixed_of-fields Fixed w some = absurd (some refl)

found_fields :
    (found : Option Row) (i : Instr) (f : Format) (a b c : ℕ) → HasFields f →
    option_map (λ row. row.format) found ≡ Some f → option_map (λ row. field row.bits 0 7) found ≡ Some a →
    option_map (λ row. field row.bits 12 3) found ≡ Some b → option_map (λ row. field row.bits 25 7) found ≡ Some c →
    option_map (λ row. encoded_by row.format (fixed_of row.format row.bits) i) found ≡
    Some (encoded_by f (fixed_by f a b c) i)
found_fields None i f a b c some p q r s = cc
found_fields (Some row) i f a b c some p q r s =
    let format : row.format ≡ f = cc in
    rw (format, fixed_of-fields f row.bits some, same_Some _ _ q, same_Some _ _ r, same_Some _ _ s) refl

-- the word of an instruction of a format with fields
pub encoded-fields :
    (i : Instr) (f : Format) (a b c : ℕ) → HasFields f →
    option_map (λ row. row.format) (row_of i.op) ≡ Some f →
    option_map (λ row. field row.bits 0 7) (row_of i.op) ≡ Some a →
    option_map (λ row. field row.bits 12 3) (row_of i.op) ≡ Some b →
    option_map (λ row. field row.bits 25 7) (row_of i.op) ≡ Some c →
    encoded i ≡ Some (encoded_by f (fixed_by f a b c) i)
unfolding encoded
encoded-fields i = found_fields (row_of i.op) i

-- the word of an instruction without fields
pub encoded-fixed :
    (i : Instr) (w : ℕ) → option_map (λ row. row.format) (row_of i.op) ≡ Some Fixed →
    option_map (λ row. row.bits) (row_of i.op) ≡ Some w → encoded i ≡ Some w
unfolding encoded
encoded-fixed i w p q = found (row_of i.op) p q
  where
    found :
        (found : Option Row) → option_map (λ row. row.format) found ≡ Some Fixed →
        option_map (λ row. row.bits) found ≡ Some w →
        option_map (λ row. encoded_by row.format (fixed_of row.format row.bits) i) found ≡ Some w
    found None p q = cc
    found (Some row) p q =
        let format : row.format ≡ Fixed = cc in
        rw (format) q
