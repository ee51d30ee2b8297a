-- Further items count like the same items in the entry that gives the name its type.
use Rattle.std.proofs.Common.{◌≡◌, ◌∙◌, ℕ, Bool, true, false, refl, sym, ap, List, [], ◌∷◌, ◌++◌, cond}
use Rattle.std.proofs.lemmas.Grind.{flat_map-append}
use Rattle.std.proofs.lemmas.List.Sums.{fold-append}
use Rattle.std.proofs.lemmas.Slice.Eq.{bytes_eq-Decides}
use Rattle.std.specs.List.{flat_map, fold, list_any}
use Rattle.std.specs.Str.{bytes_eq}
use Rattle.std.proofs.lemmas.Bool.{or_parts}
use Rattle.repl_read.specs.declared.entry.Entry.{Entry}
use Rattle.repl_read.specs.declared.entry.Head.{Head}
use Rattle.repl_read.specs.declared.entry.Head.TheVariants.{Using, Typed, Update}
use Rattle.repl_read.specs.declared.entry.Place.{Place}
use Rattle.repl_build.specs.declared.merge.Peripheral.{Peripheral}
use Rattle.repl_build.specs.declared.merge.PlacedItem.{PlacedItem}
use Rattle.repl_build.specs.Merge.{own_items, with_item, updates, further_of, further_items, merged_items}
use Rattle.repl_build.specs.Merge.{peripheral, peripheral_by, peripheral_of, merged}
use Rattle.repl_build.specs.Names.{types_name, is_typed}
use Rattle.repl_build.specs.Plan.{plan_of, built}
use Rattle.repl_build.specs.Types.{type_of}
use Rattle.repl_build.specs.Updates.{IsWrittenIn, is_updated, KeepNames}
use Rattle.repl_build.proofs.NameLemmas.{bytes_eq_comm}

none_made :
    {X Y : Type 0} (g : X → List Y) (p : X → Bool) (xs : List X) → ((x : X) → p x ≡ false → g x ≡ []) →
    list_any p xs ≡ false → flat_map g xs ≡ []
none_made g p [] one none = refl
none_made g p (x ∷ xs) one none =
    let parts = or_parts (p x) (list_any p xs) none in
    rw (one x parts.0, none_made g p xs one parts.1) refl

same_made :
    {X Y : Type 0} (f g : X → List Y) (p : X → Bool) (xs : List X) → ((x : X) → p x ≡ false → f x ≡ g x) →
    list_any p xs ≡ false → flat_map f xs ≡ flat_map g xs
same_made f g p [] one none = refl
same_made f g p (x ∷ xs) one none =
    let parts = or_parts (p x) (list_any p xs) none in
    rw (one x parts.0, same_made f g p xs one parts.1) refl

-- entries with the two apart, and with the two in one
abbrev apart : List Entry → List Entry → List Entry → Entry → Entry → List Entry
apart front mid back entry further = front ++ entry ∷ (mid ++ further ∷ back)

abbrev joined : List Entry → List Entry → List Entry → Entry → List Entry
joined front mid back both = front ++ both ∷ (mid ++ back)

split_apart :
    {Y : Type 0} (f : Entry → List Y) (front mid back : List Entry) (entry further : Entry) →
    flat_map f (apart front mid back entry further)
    ≡ flat_map f front ++ (f entry ++ (flat_map f mid ++ (f further ++ flat_map f back)))
split_apart f front mid back entry further =
    flat_map-append f front (entry ∷ (mid ++ further ∷ back))
    ∙ ap (λ rest. flat_map f front ++ (f entry ++ rest)) (flat_map-append f mid (further ∷ back))

split_joined :
    {Y : Type 0} (f : Entry → List Y) (front mid back : List Entry) (both : Entry) →
    flat_map f (joined front mid back both)
    ≡ flat_map f front ++ (f both ++ (flat_map f mid ++ flat_map f back))
split_joined f front mid back both =
    flat_map-append f front (both ∷ (mid ++ back))
    ∙ ap (λ rest. flat_map f front ++ (f both ++ rest)) (flat_map-append f mid back)

-- an entry with a type has no further items
typed_none : (n name kind : List ℕ) (at : Place) (entry : Entry) → entry.head ≡ Typed name kind at →
    further_of n entry ≡ []
typed_none n name kind at entry is = ap (λ head. cond {A = List PlacedItem} (updates n head) (own_items entry) []) is

further_by : (n name : List ℕ) (further : Entry) → further.head ≡ Update name →
    further_of n further ≡ cond {A = List PlacedItem} (bytes_eq name n) (own_items further) []
further_by n name further is =
    ap (λ head. cond {A = List PlacedItem} (updates n head) (own_items further) []) is

-- other names have the same further items
other_further :
    (n name kind : List ℕ) (at : Place) (front mid back : List Entry) (entry further both : Entry) →
    entry.head ≡ Typed name kind at → further.head ≡ Update name → both.head ≡ Typed name kind at →
    bytes_eq name n ≡ false →
    further_items (apart front mid back entry further) n ≡ further_items (joined front mid back both) n
other_further n name kind at front mid back entry further both typed update also differ =
    let f = further_of n in
    let none : f further ≡ [] = further_by n name further update ∙ (rw differ refl) in
    let one : further_items (apart front mid back entry further) n
    ≡ flat_map f front ++ (flat_map f mid ++ flat_map f back) =
    split_apart f front mid back entry further ∙ (rw (typed_none n name kind at entry typed, none) refl) in
    let two : further_items (joined front mid back both) n
    ≡ flat_map f front ++ (flat_map f mid ++ flat_map f back) =
    split_joined f front mid back both ∙ (rw (typed_none n name kind at both also) refl) in
    one ∙ sym two

abbrev made_of : ℕ → ℕ → List ℕ → List ℕ → Place → List PlacedItem → Peripheral
made_of file line name kind at items =
    record { file = file; line = line; name = name; kind = type_of kind; at = at; items = items }

other_peripheral :
    (name : List ℕ) (two_texts one_text : List Entry) (x : Entry) (head : Head) →
    ((n : List ℕ) → bytes_eq name n ≡ false → further_items two_texts n ≡ further_items one_text n) →
    types_name name head ≡ false → peripheral_by two_texts x head ≡ peripheral_by one_text x head
other_peripheral name two_texts one_text x (Using file) same other = refl
other_peripheral name two_texts one_text x (Update n) same other = refl
other_peripheral name two_texts one_text x (Typed n kind at) same other =
    let items = same n (bytes_eq_comm name n ∙ other) in
    ap (λ further. made_of x.file x.line n kind at (fold with_item (own_items x) further) ∷ []) items

-- the items of the name
same_items :
    (name kind : List ℕ) (at : Place) (front mid back : List Entry) (entry further both : Entry) →
    entry.head ≡ Typed name kind at → further.head ≡ Update name → both.head ≡ Typed name kind at →
    own_items both ≡ fold with_item (own_items entry) (own_items further) → bytes_eq name name ≡ true →
    is_updated front name ≡ false → is_updated mid name ≡ false →
    merged_items (apart front mid back entry further) name entry ≡ merged_items (joined front mid back both) name both
same_items name kind at front mid back entry further both typed update also items self early between =
    let f = further_of name in
    let none : (x : Entry) → updates name x.head ≡ false → f x ≡ [] = λ x is. (rw is refl) in
    let mine : f further ≡ own_items further = further_by name name further update ∙ (rw self refl) in
    let before : flat_map f front ≡ [] = none_made f (λ x. updates name x.head) front none early in
    let middle : flat_map f mid ≡ [] = none_made f (λ x. updates name x.head) mid none between in
    let one : further_items (apart front mid back entry further) name ≡ own_items further ++ flat_map f back =
    split_apart f front mid back entry further
    ∙ (rw (before, typed_none name name kind at entry typed, middle, mine) refl) in
    let two : further_items (joined front mid back both) name ≡ flat_map f back =
    split_joined f front mid back both ∙ (rw (before, typed_none name name kind at both also, middle) refl) in
    ap (fold with_item (own_items entry)) one
    ∙ fold-append with_item (own_items entry) (own_items further) (flat_map f back)
    ∙ ap (λ start. fold with_item start (flat_map f back)) (sym items)
    ∙ ap (fold with_item (own_items both)) (sym two)

same_peripheral :
    (name kind : List ℕ) (at : Place) (two_texts one_text : List Entry) (entry both : Entry) → both.file ≡ entry.file →
    both.line ≡ entry.line → merged_items two_texts name entry ≡ merged_items one_text name both →
    peripheral two_texts entry name kind at ≡ peripheral one_text both name kind at
same_peripheral name kind at two_texts one_text entry both file line items =
    let all = merged_items one_text name both in
    ap (made_of entry.file entry.line name kind at) items
    ∙ ap (λ f. made_of f entry.line name kind at all) (sym file)
    ∙ ap (λ l. made_of both.file l name kind at all) (sym line)

merged_same :
    (name kind : List ℕ) (at : Place) (front mid back : List Entry) (entry further both : Entry) →
    entry.head ≡ Typed name kind at → further.head ≡ Update name → IsWrittenIn entry further both →
    is_typed front name ≡ false → is_typed mid name ≡ false → is_typed back name ≡ false →
    is_updated front name ≡ false → is_updated mid name ≡ false →
    merged (apart front mid back entry further) ≡ merged (joined front mid back both)
merged_same name kind at front mid back entry further both typed update written one two three early between =
    let two_texts = apart front mid back entry further in
    let one_text = joined front mid back both in
    let also : both.head ≡ Typed name kind at = written.head ∙ typed in
    let other : (x : Entry) → types_name name x.head ≡ false → peripheral_of two_texts x ≡ peripheral_of one_text x =
    λ x is. other_peripheral name two_texts one_text x x.head
    (λ n differ. other_further n name kind at front mid back entry further both typed update also differ) is in
    let test = λ (x : Entry). types_name name x.head in
    let before = same_made (peripheral_of two_texts) (peripheral_of one_text) test front other one in
    let middle = same_made (peripheral_of two_texts) (peripheral_of one_text) test mid other two in
    let after = same_made (peripheral_of two_texts) (peripheral_of one_text) test back other three in
    let none : peripheral_of two_texts further ≡ [] = ap (peripheral_by two_texts further) update in
    let items = same_items name kind at front mid back entry further both typed update also written.items
    ((bytes_eq-Decides name name).1 refl) early between in
    let mine : peripheral_of two_texts entry ≡ peripheral_of one_text both =
    ap (peripheral_by two_texts entry) typed
    ∙ ap (λ p. p ∷ []) (same_peripheral name kind at two_texts one_text entry both written.file written.line items)
    ∙ sym (ap (peripheral_by one_text both) also) in
    let all : merged two_texts
    ≡ flat_map (peripheral_of one_text) front ++ (peripheral_of one_text both ++ (flat_map (peripheral_of one_text) mid
    ++ flat_map (peripheral_of one_text) back)) =
    split_apart (peripheral_of two_texts) front mid back entry further
    ∙ (rw (before, mine, middle, none, after) refl) in
    all ∙ sym (split_joined (peripheral_of one_text) front mid back both)

names_kept : (entries : List Entry) → KeepNames entries → built entries ≡ plan_of (merged entries)
unfolding built
names_kept entries kept = rw (kept.0, kept.1) refl

pub updates_count :
    (front mid back : List Entry) (entry further both : Entry) (name kind : List ℕ) (at : Place) →
    entry.head ≡ Typed name kind at → further.head ≡ Update name → IsWrittenIn entry further both →
    is_typed front name ≡ false → is_typed mid name ≡ false → is_typed back name ≡ false →
    is_updated front name ≡ false → is_updated mid name ≡ false →
    KeepNames (front ++ entry ∷ (mid ++ further ∷ back)) → KeepNames (front ++ both ∷ (mid ++ back)) →
    built (front ++ entry ∷ (mid ++ further ∷ back)) ≡ built (front ++ both ∷ (mid ++ back))
updates_count front mid back entry further both name kind at typed update written one two three early between kept
    also =
    names_kept (apart front mid back entry further) kept
    ∙ ap plan_of (merged_same name kind at front mid back entry further both typed update written one two three early
    between)
    ∙ sym (names_kept (joined front mid back both) also)
