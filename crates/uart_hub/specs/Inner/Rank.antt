-- In which hub each member is, as a number.
use Rattle.std.specs.Prelude.{◌≡◌, ℕ, zero, suc, ◌+◌, ◌*◌, ◌<◌, if◌then◌else◌, List, [], ◌∷◌, slice_index_or}
use Rattle.lab_num.specs.declared.key.Member.{Member}
use Rattle.lab_num.specs.Route.{has_member}
use Rattle.uart_hub.specs.Hub.{Hub}

-- the place of a member among all that there may be
abbrev pub place : Member → ℕ
place m = 256 * m.dev + m.board.0

-- the rank of a hub among one hub more
abbrev pub passed : ℕ → ℕ
passed zero = zero
passed (suc n) = suc (suc n)

-- which hub is the first that has a member, counted from 1; 0 where no hub has it
abbrev pub rank : List Hub → Member → ℕ
rank [] m = 0
rank (hub ∷ hubs) m = if has_member hub.members m then 1 else passed (rank hubs m)

-- the numbers are the ranks of all members
abbrev pub AreRanks : List ℕ → List Hub → Type 0
AreRanks numbers hubs = (m : Member) → m.board.0 < 256 → slice_index_or numbers (place m) 0 ≡ rank hubs m
