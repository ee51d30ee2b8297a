-- The order of keys, and when keys differ and members are one.
use Rattle.std.specs.Prelude.{Bool, ◌==◌, ◌&&◌, List, map}
use Rattle.std.specs.List.{IsDistinct}
use Rattle.std.specs.declared.cmp.Ordering.{Ordering}
use Rattle.std.specs.Ordering.{nat_cmp, ordering_then, eq_by_cmp}
use Rattle.lab_num.specs.declared.key.Key.{Key}
use Rattle.lab_num.specs.declared.key.Member.{Member}

-- keys are compared by time, then by board, then by number
abbrev pub key_cmp : Key → Key → Ordering
key_cmp a b =
    ordering_then (nat_cmp a.at.0 b.at.0)
    (ordering_then (nat_cmp a.board.0 b.board.0) (nat_cmp a.number.0 b.number.0))

-- whether two members are one
abbrev pub same_member : Member → Member → Bool
same_member a b = a.board.0 == b.board.0 && a.dev == b.dev

-- no two of the items have one key
abbrev pub KeysDiffer : {T : Type 0} → (T → Key) → List T → Type 0
KeysDiffer key items = IsDistinct (eq_by_cmp key_cmp) (map key items)
