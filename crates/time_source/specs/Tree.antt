-- The tree of time, as the time framework of Renode has it: one source, and its members below it.
use Rattle.std.specs.Prelude.{◌≡◌, ℕ, ◌+◌, ◌≤◌, min, Bool, true, false, if◌then◌else◌, List, [], ◌∷◌, ◌++◌, map, All}
use Rattle.std.specs.Prelude.{slice_set}
use Rattle.time_handle.specs.Grant.{Grant, fresh, left}
use Rattle.time_handle.specs.Grant as grants

-- the members' handles in order of joining, the end of the grant that is open or was the last, and whether one is open
pub record Tree : Type 0 where
  pub handles : List Grant
  pub end : ℕ
  pub is_open : Bool

-- no member, and no open grant, at a time
abbrev pub new_at : ℕ → Tree
new_at now = record { handles = []; end = now; is_open = false }

-- no member, and no grant so far
abbrev pub new : Tree
new = new_at 0

-- a member that joins has an empty grant at first
abbrev pub with_member : Tree → ℕ → Tree
with_member t speed = record t { handles = t.handles ++ fresh t.end t.end speed ∷ [] }

-- a member whose speed is set has an empty grant at that speed
abbrev pub with_speed : Tree → ℕ → ℕ → Tree
with_speed t board speed = record t { handles = slice_set t.handles board (fresh t.end t.end speed) }

-- the next grant of one that has this one, at its speed
abbrev pub renewed : ℕ → ℕ → Grant → Grant
renewed from to g = fresh from to g.speed

-- a grant of q microseconds to each member
abbrev pub granted : Tree → ℕ → Tree
granted t q = record {
  handles = map (renewed t.end (t.end + q)) t.handles;
  end = t.end + q;
  is_open = true;
}

-- the same grant, of which no fewer slots are used
pub record IsLater (before after : Grant) : Type 0 where
  pub from : after.from ≡ before.from
  pub to : after.to ≡ before.to
  pub speed : after.speed ≡ before.speed
  pub used : before.used ≤ after.used

-- the least of some times, and another time where there are none
abbrev pub least : ℕ → List ℕ → ℕ
least other [] = other
least other (t ∷ ts) = min t (least t ts)

-- the time of a source: while a grant is open, the least of its members' times, or the end of the grant where it has
-- none; else the end of the last grant
abbrev pub elapsed : Tree → ℕ
elapsed t = if t.is_open then least t.end (map grants.elapsed t.handles) else t.end

-- no member has anything left
abbrev pub IsDone : Tree → Type 0
IsDone t = All (λ g. left g ≡ 0) t.handles
