-- What comes of a platform file rests on the names that its loading reads.
use Rattle.std.proofs.Common.{◌≡◌, ◌∷◌, ◌+◌, ◌-◌, ◌∙◌, ℕ, zero, suc, nat_le, if◌then◌else◌, Bool, true, false}
use Rattle.std.proofs.Common.{List, [], length, Option, None, Some, refl, ap}
use Rattle.std.specs.FinMap.{get}
use Rattle.lab_io.specs.Held.{Held}
use Rattle.repl_read.specs.declared.entry.Entry.{Entry}
use Rattle.repl_files.specs.declared.fault.FileCause.TheVariants.{Depth, Size}
use Rattle.repl_files.specs.Content.{Content, Missing, Large, Faulty, Readable, content_of}
use Rattle.repl_files.specs.Loading.{Gives, Use, Loading, Outcome, Joined, Refused, Oversized, Absent, stopped}
use Rattle.repl_files.specs.Loading.{refused_at, go_on, used_file, one_by, one, in_order, file_read, used, load}
use Rattle.log_laws.proofs.AgreementLemmas.{Same, same_front, same_behind}

module _ (held other : Held) where
  -- a loading is the same with the other files where these agree on the names that it reads
  abbrev Stays : Loading → Loading → Type 0
  Stays first second = Same held other first.names → second ≡ first

  abbrev StaysBy : Gives → Gives → Type 0
  StaysBy gives others = (count : ℕ) (at : Use) → Stays (gives count at) (others count at)

  front : (names : List (List ℕ)) (outcome : Outcome) (rest : Loading) →
      Same held other (go_on names outcome rest).names → Same held other names
  front names (Joined entries) rest same = same_front held other names rest.names same
  front names (Refused fault) rest same = same
  front names Oversized rest same = same
  front names Absent rest same = same

  on : (names : List (List ℕ)) (outcome : Outcome) (rest others : Loading) → Stays rest others →
      Stays (go_on names outcome rest) (go_on names outcome others)
  on names (Joined entries) rest others stays same =
      ap (λ more. go_on names (Joined entries) more) (stays (same_behind held other names rest.names same))
  on names (Refused fault) rest others stays same = refl
  on names Oversized rest others stays same = refl
  on names Absent rest others stays same = refl

  module _ (gives others : Gives) (stays : StaysBy gives others) where
    one_stays : (file : List ℕ) (number count : ℕ) (entry : Entry) (name : Option (List ℕ)) →
        Stays (one_by gives file number count entry name) (one_by others file number count entry name)
    one_stays file number count entry None same = refl
    one_stays file number count entry (Some name) same =
        stays count (record { file = file; line = entry.line; name = name }) same

    all_stay : (file : List ℕ) (number count : ℕ) (entries : List Entry) →
        Stays (in_order gives file number count entries) (in_order others file number count entries)
    all_stay file number count [] same = refl
    all_stay file number count (entry ∷ entries) same =
        let first = one gives file number count entry in
        let next = count + length first.names in
        let rest = in_order gives file number next entries in
        let is : one others file number count entry ≡ first =
        one_stays file number count entry (used_file entry.head)
        (front first.names first.outcome rest same) in
        ap (λ (found : Loading).
        go_on found.names found.outcome (in_order others file number (count + length found.names) entries)) is
        ∙ on first.names first.outcome rest (in_order others file number next entries)
        (all_stay file number next entries) same

    file_stays : (large : Outcome) (name : List ℕ) (number : ℕ) (content : Content) →
        Stays (file_read gives large name number content) (file_read others large name number content)
    file_stays large name number Missing same = refl
    file_stays large name number Large same = refl
    file_stays large name number (Faulty line cause) same = refl
    file_stays large name number (Readable entries) same =
        on (name ∷ []) (Joined []) (in_order gives name number (number + 1) entries)
        (in_order others name number (number + 1) entries)
        (all_stay name number (number + 1) entries) same

    -- the name of a file is the first that is read
    named : (large : Outcome) (name : List ℕ) (number : ℕ) (content : Content) →
        Same held other (file_read gives large name number content).names → get other name ≡ get held name
    named large name number Missing same = same.0
    named large name number Large same = same.0
    named large name number (Faulty line cause) same = same.0
    named large name number (Readable entries) same = same.0

    read_stays : (large : Outcome) (name : List ℕ) (number : ℕ) →
        Stays (file_read gives large name number (content_of (get held name)))
        (file_read others large name number (content_of (get other name)))
    read_stays large name number same =
        ap (λ there. file_read others large name number (content_of there))
        (named large name number (content_of (get held name)) same)
        ∙ file_stays large name number (content_of (get held name)) same

  if_stays : (at : Use) (first second : Loading) (b : Bool) → Stays first second →
      Stays (if b then stopped [] (refused_at at Depth) else first)
      (if b then stopped [] (refused_at at Depth) else second)
  if_stays at first second true stays same = refl
  if_stays at first second false stays same = stays same

  used_stays : (room : ℕ) → StaysBy (used room held) (used room other)
  unfolding used
  used_stays zero count at same = refl
  used_stays (suc room) count at same =
      if_stays at _ _ (nat_le 64 count)
      (read_stays (used room held) (used room other) (used_stays room) (refused_at at Size) at.name count) same

  -- of the loading that a command asks for
  pub load_stays : (bodies : ℕ) (name : List ℕ) → Same held other (load held bodies name).names →
      load other bodies name ≡ load held bodies name
  load_stays bodies name same =
      read_stays (used (8 - bodies) held) (used (8 - bodies) other) (used_stays (8 - bodies)) Oversized name 0 same
