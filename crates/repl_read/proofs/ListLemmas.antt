-- What each part of a list says, part by part.
use Rattle.std.proofs.Common.{◌≡◌, ℕ, ◌+◌, ◌<◌, ◌==◌, ◌∙◌, true, false, refl, sym, ap, List, [], ◌∷◌, ◌++◌, length}
use Rattle.std.proofs.Common.{get_or, map, filter, drop, Result, Ok, Err, append_assoc, arith}
use Rattle.std.proofs.lemmas.Bool.Decides.{nat_tests}
use Rattle.std.proofs.lemmas.List.{drop_more}
use Rattle.repl_read.specs.declared.fault.ReadCause.{ReadCause}
use Rattle.repl_read.specs.declared.entry.ItemWhat.{ItemWhat}
use Rattle.repl_read.specs.declared.tokens.Token.{Token}
use Rattle.repl_read.specs.Items.{is_filled, item_of, items_of}
use Rattle.repl_read.specs.Forms.{◌>>=◌, all_of}
use denote.Ref.{Bor}

-- what is read so far, in front of what the other parts say
abbrev pub onto : {Y : Type 0} → List Y → Result (List Y) ReadCause → Result (List Y) ReadCause
onto done (Ok more) = Ok (done ++ more)
onto done (Err cause) = Err cause

onto_more :
    {Y : Type 0} (done : List Y) (y : Y) (r : Result (List Y) ReadCause) →
    onto done (r >>= λ ys. Ok (y ∷ ys)) ≡ onto (done ++ y ∷ []) r
onto_more done y (Ok more) = ap Ok (sym (append_assoc done (y ∷ []) more))
onto_more done y (Err cause) = refl

-- a part more
pub all_more :
    {X Y : Type 0} (f : X → Result Y ReadCause) (x : X) (xs : List X) (y : Y) (done : List Y) →
    f x ≡ Ok y → onto done (all_of f (x ∷ xs)) ≡ onto (done ++ y ∷ []) (all_of f xs)
all_more f x xs y done is = rw is (onto_more done y (all_of f xs))

-- the parts from one on
pub parts_from :
    {X : Type 0} (parts : List (Bor X)) (i : ℕ) (part : Bor X) → i < length parts → part ≡ get_or parts i part →
    map (λ part. part.now) (drop i parts) ≡ part.now ∷ map (λ part. part.now) (drop (i + 1) parts)
parts_from parts i part inside at =
    ap (map (λ part. part.now)) (drop_more parts i part inside ∙ ap (λ x. x ∷ drop (i + 1) parts) (sym at))

filled : (part : List Token) → (length part == 0) ≡ false → is_filled part ≡ true
filled [] some = cc
filled (t ∷ ts) some = refl

not_filled : (part : List Token) → (length part == 0) ≡ true → is_filled part ≡ false
not_filled [] none = refl
not_filled (t ∷ ts) none = absurd (grind (arith, nat_tests))

-- a part more that makes an item, or none
pub items_more :
    (part : List Token) (parts : List (List Token)) (item : ItemWhat) (done : List ItemWhat) →
    (length part == 0) ≡ false → item_of part ≡ Ok item →
    onto done (items_of (part ∷ parts)) ≡ onto (done ++ item ∷ []) (items_of parts)
items_more part parts item done some is =
    rw (filled part some) (all_more item_of part (filter is_filled parts) item done is)

pub items_skip :
    (part : List Token) (parts : List (List Token)) → (length part == 0) ≡ true →
    items_of (part ∷ parts) ≡ items_of parts
items_skip part parts none = rw (not_filled part none) refl
