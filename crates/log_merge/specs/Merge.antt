-- The entries that a merge is given.
use Rattle.std.specs.Prelude.{List, Vec}
use Rattle.std.specs.List.{flat_map}
use Rattle.std.specs.declared.alloc.Global.{Global}
use Rattle.dev_core.specs.declared.post.Entry.{Entry}

-- the entries of the lists, one list after another
abbrev pub all_entries : List (Vec Entry Global) → List Entry
all_entries lists = flat_map (λ list. list.items) lists
