-- The bus of the processor that takes a slot, and what each of its accesses does.
use Rattle.std.specs.Prelude.{ℕ, Bool, if◌then◌else◌, List, [], ◌∷◌, ◌++◌, Option, None, Some}
use Rattle.lab_num.specs.declared.key.Key.{Key}
use Rattle.dev_core.specs.declared.payload.Effect.{Effect}
use Rattle.dev_core.specs.declared.payload.Effect.TheVariants.{Quiet, Send}
use Rattle.dev_core.specs.declared.payload.Payload.{Payload}
use Rattle.dev_core.specs.declared.payload.Payload.TheVariants.{Byte, Frame, Finish}
use Rattle.dev_core.specs.declared.post.Entry.{Entry}
use Rattle.dev_core.specs.declared.post.Post.{Post}
use Rattle.dev_core.specs.declared.post.What.{What}
use Rattle.dev_core.specs.declared.post.What.TheVariants as what
use Rattle.sys_bus.specs.declared.region.Target.{Target}
use Rattle.sys_bus.specs.declared.region.Target.TheVariants.{Ram, Clint, Plic, Dev, Nothing}
use Rattle.board.specs.Numbers.{Numbers, after_post, after_entry}
use Rattle.board_space.specs.Space.{Space, device_at, target_at, device_store, load_answer, after_load}
use Rattle.board_space.specs.Space.{after_store}
use Rattle.board_space.specs.Words.{word_in}

-- the board's numbers, its space, the microsecond of the slot, and the posts and entries that nobody has taken
pub record HartBus : Type 0 where
  pub numbers : Numbers
  pub space : Space
  pub at : ℕ
  pub posts : List Post
  pub entries : List Entry

-- the key of what the board makes in this slot
abbrev pub key_of : HartBus → ℕ → Key
key_of w number =
    record { at = record { 0 = w.at }; board = record { 0 = w.numbers.number }; number = record { 0 = number } }

-- what a device sends, as a post
abbrev pub post_of : HartBus → ℕ → Payload → Post
post_of w dev payload = record {
  key = key_of w w.numbers.posted;
  from = record { board = record { 0 = w.numbers.number }; dev = dev };
  payload = payload;
}

abbrev pub posted : HartBus → ℕ → Payload → HartBus
posted w dev payload = record w { numbers = after_post w.numbers; posts = w.posts ++ post_of w dev payload ∷ [] }

-- a note for the log, as an entry
abbrev pub entry_of : HartBus → What → Entry
entry_of w note = record { key = key_of w w.numbers.entered; what = note }

abbrev pub entered : HartBus → What → HartBus
entered w note = record w { numbers = after_entry w.numbers; entries = w.entries ++ entry_of w note ∷ [] }

abbrev pub entered_if : HartBus → Option What → HartBus
entered_if w None = w
entered_if w (Some note) = entered w note

-- what the log notes of a payload that a shown device sends: of a byte and of a frame
abbrev pub note_of : ℕ → Payload → Option What
note_of dev (Byte value) = Some (what.Byte dev value)
note_of dev (Frame frame) = Some (what.Sent dev frame)
note_of dev (Finish finish) = None

abbrev pub note_if : Bool → ℕ → Payload → Option What
note_if shown dev payload = if shown then note_of dev payload else None

-- a device sends a payload: that makes a post, and an entry too where the device is shown
unfoldable pub sent : HartBus → ℕ → Payload → HartBus
sent w dev payload = entered_if (posted w dev payload) (note_if (device_at w.space dev).shown dev payload)

-- a device does what a store made it do
abbrev pub acted : HartBus → ℕ → Effect → HartBus
acted w dev Quiet = w
acted w dev (Send payload) = sent w dev payload

abbrev pub fetched : HartBus → ℕ → Option ℕ
fetched w at = word_in w.space at

-- what a load answers
abbrev pub answer : HartBus → ℕ → ℕ → ℕ
answer w at width = load_answer w.space w.at width (target_at w.space at width)

-- what a load changes; one that reaches nothing is noted
abbrev pub reading : ℕ → ℕ → Target → Option What
reading at width Nothing = Some (what.Read width at)
reading at width (Ram part offset) = None
reading at width (Dev dev offset) = None
reading at width (Clint offset) = None
reading at width (Plic offset) = None

abbrev pub loaded_from : HartBus → ℕ → ℕ → Target → HartBus
loaded_from w at width target =
    entered_if (record w { space = after_load w.space width target }) (reading at width target)

unfoldable pub loaded : HartBus → ℕ → ℕ → HartBus
loaded w at width = loaded_from w at width (target_at w.space at width)

-- what a store changes; one that reaches nothing is noted
abbrev pub stored_to : HartBus → ℕ → ℕ → ℕ → Target → HartBus
stored_to w at width value (Ram part offset) =
    record w { space = after_store w.space w.at width value (Ram part offset) }
stored_to w at width value (Dev dev offset) =
    acted (record w { space = after_store w.space w.at width value (Dev dev offset) })
    dev (device_store w.space dev offset width value).answer
stored_to w at width value (Clint offset) =
    record w { space = after_store w.space w.at width value (Clint offset) }
stored_to w at width value (Plic offset) =
    record w { space = after_store w.space w.at width value (Plic offset) }
stored_to w at width value Nothing = entered w (what.Write width at value)

unfoldable pub stored : HartBus → ℕ → ℕ → ℕ → HartBus
stored w at width value = stored_to w at width value (target_at w.space at width)
