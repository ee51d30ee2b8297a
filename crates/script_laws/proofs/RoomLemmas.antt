-- A platform is loaded alike whatever is open, unless one loading is refused for that.
use Rattle.std.proofs.Common.{◌≡◌, ◌⊎◌, inl, inr, ◌∷◌, ◌+◌, ◌-◌, ℕ, zero, suc, nat_le, if◌then◌else◌, Bool, true}
use Rattle.std.proofs.Common.{false}
use Rattle.std.proofs.Common.{List, [], length, Option, None, Some, refl, sym, ap, subst}
use Rattle.std.specs.FinMap.{get}
use Rattle.lab_io.specs.Held.{Held}
use Rattle.repl_read.specs.declared.entry.Entry.{Entry}
use Rattle.repl_files.specs.declared.fault.FileCause.TheVariants.{Depth, Size}
use Rattle.repl_files.specs.Content.{Content, Missing, Large, Faulty, Readable, content_of}
use Rattle.repl_files.specs.Loading.{Gives, Use, Loading, Outcome, Joined, Refused, Oversized, Absent, stopped, joined}
use Rattle.repl_files.specs.Loading.{refused_at, go_on, used_file, one_by, one, in_order, file_read, used, load}

-- a loading is refused for what is open
abbrev pub IsDeep : Outcome → Type 0
IsDeep (Refused fault) = fault.cause ≡ Depth
IsDeep _ = ⊥

-- two loadings are one, unless one of them is refused for what is open
abbrev pub OneUnless : Loading → Loading → Type 0
OneUnless first second = IsDeep first.outcome ⊎ IsDeep second.outcome ⊎ (second ≡ first)

abbrev AllOne : Gives → Gives → Type 0
AllOne gives others = (count : ℕ) (at : Use) → OneUnless (gives count at) (others count at)

deep_joined : (entries : List Entry) (outcome : Outcome) → IsDeep outcome → IsDeep (joined entries outcome)
deep_joined entries (Refused fault) deep = deep
deep_joined entries (Joined more) deep = absurd deep
deep_joined entries Oversized deep = absurd deep
deep_joined entries Absent deep = absurd deep

deep_on : (names : List (List ℕ)) (outcome : Outcome) (rest : Loading) → IsDeep outcome →
    IsDeep (go_on names outcome rest).outcome
deep_on names (Refused fault) rest deep = deep
deep_on names (Joined entries) rest deep = absurd deep
deep_on names Oversized rest deep = absurd deep
deep_on names Absent rest deep = absurd deep

on : (names : List (List ℕ)) (outcome : Outcome) (rest others : Loading) → OneUnless rest others →
    OneUnless (go_on names outcome rest) (go_on names outcome others)
on names (Joined entries) rest others (inl deep) = inl (deep_joined entries rest.outcome deep)
on names (Joined entries) rest others (inr (inl deep)) = inr (inl (deep_joined entries others.outcome deep))
on names (Joined entries) rest others (inr (inr is)) = inr (inr (ap (go_on names (Joined entries)) is))
on names (Refused fault) rest others are = inr (inr refl)
on names Oversized rest others are = inr (inr refl)
on names Absent rest others are = inr (inr refl)

module _ (gives others : Gives) (are : AllOne gives others) where
  one_entry : (file : List ℕ) (number count : ℕ) (entry : Entry) (name : Option (List ℕ)) →
      OneUnless (one_by gives file number count entry name) (one_by others file number count entry name)
  one_entry file number count entry None = inr (inr refl)
  one_entry file number count entry (Some name) = are count (record { file = file; line = entry.line; name = name })

  -- what comes of an entry, with what comes of those behind it
  with_rest : (first second : Loading) (rest more : ℕ → Loading) → OneUnless first second →
      ((count : ℕ) → OneUnless (rest count) (more count)) → (count : ℕ) →
      OneUnless (go_on first.names first.outcome (rest (count + length first.names)))
      (go_on second.names second.outcome (more (count + length second.names)))
  with_rest first second rest more (inl deep) all count = inl (deep_on first.names first.outcome _ deep)
  with_rest first second rest more (inr (inl deep)) all count = inr (inl (deep_on second.names second.outcome _ deep))
  with_rest first second rest more (inr (inr is)) all count =
      subst
      (λ (found : Loading). OneUnless (go_on first.names first.outcome (rest (count + length first.names)))
      (go_on found.names found.outcome (more (count + length found.names))))
      (sym is)
      (on first.names first.outcome (rest (count + length first.names)) (more (count + length first.names))
      (all (count + length first.names)))

  all_entries : (file : List ℕ) (number : ℕ) (entries : List Entry) (count : ℕ) →
      OneUnless (in_order gives file number count entries) (in_order others file number count entries)
  all_entries file number [] count = inr (inr refl)
  all_entries file number (entry ∷ entries) count =
      with_rest (one gives file number count entry) (one others file number count entry)
      (λ count. in_order gives file number count entries) (λ count. in_order others file number count entries)
      (one_entry file number count entry (used_file entry.head)) (all_entries file number entries) count

  whole_file : (large : Outcome) (name : List ℕ) (number : ℕ) (content : Content) →
      OneUnless (file_read gives large name number content) (file_read others large name number content)
  whole_file large name number Missing = inr (inr refl)
  whole_file large name number Large = inr (inr refl)
  whole_file large name number (Faulty line cause) = inr (inr refl)
  whole_file large name number (Readable entries) =
      on (name ∷ []) (Joined []) (in_order gives name number (number + 1) entries)
      (in_order others name number (number + 1) entries) (all_entries name number entries (number + 1))

if_one : (at : Use) (first second : Loading) (b : Bool) → OneUnless first second →
    OneUnless (if b then stopped [] (refused_at at Depth) else first)
    (if b then stopped [] (refused_at at Depth) else second)
if_one at first second true are = inr (inr refl)
if_one at first second false are = are

used_one : (held : Held) (room other : ℕ) → AllOne (used room held) (used other held)
unfolding used
used_one held zero other count at = inl refl
used_one held (suc room) zero count at = inr (inl refl)
used_one held (suc room) (suc other) count at =
    if_one at _ _ (nat_le 64 count)
    (whole_file (used room held) (used other held) (used_one held room other) (refused_at at Size) at.name count
    (content_of (get held at.name)))

-- of the loading that a command asks for, where so many bodies are open
pub load_one : (held : Held) (bodies others : ℕ) (name : List ℕ) →
    OneUnless (load held bodies name) (load held others name)
load_one held bodies others name =
    whole_file (used (8 - bodies) held) (used (8 - others) held) (used_one held (8 - bodies) (8 - others)) Oversized
    name 0 (content_of (get held name))
