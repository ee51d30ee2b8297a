-- A source inside: sixteen places, of which the first `count` are in use.
use Rattle.std.specs.Prelude.{◌≡◌, ◌≤◌, ◌^◌, take, All}
use Rattle.time_source.specs.declared.source.Source.TheInside.{Inside}
use Rattle.time_source.specs.Tree.{Tree}

abbrev pub tree_of : Inside → Tree
tree_of s = record { handles = take s.count s.places; end = s.end.0; is_open = s.is_open }

pub record IsSource (s : Inside) : Type 0 where
  pub count : s.count ≤ 16
  pub last : s.end.0 ≤ 10 ^ 10
  pub ends : All (λ g. g.to ≡ s.end.0) (take s.count s.places)
