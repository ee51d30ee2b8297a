-- What a board makes, as a part of what a processor is wired to in its slot.
use Rattle.std.specs.Prelude.{ℕ, ◌<◌}
use Rattle.std.specs.Vec.{vec_len, vec_capacity}
use Rattle.std.specs.VecDeque.{deque_len, deque_capacity}
use Rattle.board.specs.declared.outbox.Outbox.{Outbox}
use Rattle.board_space.specs.Space.{Space}
use Rattle.board.specs.HartBus.{HartBus}

-- the bus of a board that has made this, with this space, in a slot at this microsecond
abbrev pub bus_with : Outbox → Space → ℕ → HartBus
bus_with outbox s t = record {
  numbers = outbox.numbers;
  space = s;
  at = t;
  posts = outbox.posts.items;
  entries = outbox.entries.items;
}

-- there is room for one more post and one more entry
abbrev pub HasRoom : Outbox → Type 0
HasRoom outbox =
    (deque_len outbox.posts < deque_capacity outbox.posts) × (vec_len outbox.entries < vec_capacity outbox.entries)
