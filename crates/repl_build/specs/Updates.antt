-- An entry with the items of a further one written in it.
use Rattle.std.specs.Prelude.{◌≡◌, ℕ, Bool, List, None}
use Rattle.std.specs.List.{list_any, fold}
use Rattle.repl_read.specs.declared.entry.Entry.{Entry}
use Rattle.repl_build.specs.Merge.{own_items, with_item, updates}
use Rattle.repl_build.specs.Names.{repeated, untyped}

-- the same entry, in which the items of the further one stand too: an attribute in the place of the one that was there,
-- and all else at the end
pub record IsWrittenIn (entry further both : Entry) : Type 0 where
  pub head : both.head ≡ entry.head
  pub file : both.file ≡ entry.file
  pub line : both.line ≡ entry.line
  pub items : own_items both ≡ fold with_item (own_items entry) (own_items further)

-- some entry has further items of the name
abbrev pub is_updated : List Entry → List ℕ → Bool
is_updated entries name = list_any (λ entry. updates name entry.head) entries

-- rules 1 and 2 are kept
abbrev pub KeepNames : List Entry → Type 0
KeepNames entries = (repeated entries ≡ None) × (untyped entries ≡ None)
