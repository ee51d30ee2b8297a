-- The floor of floor_core that words, cells and views show, and what the steps of the bench do to them.
use Rattle.std.specs.Prelude.{◌≡◌, ℕ, ◌+◌, ◌/◌, ◌%◌, ◌⊎◌, false, List, [], ◌∷◌, ◌++◌, min, map}
use Rattle.std.specs.Prelude.{Option, Some, None, slice_index_or, slice_set}
use mathlib.Core.Option.{some}
use lib.ListN.{get_elem?}
use Rattle.std.specs.Int.Bits.{bit_or}
use Rattle.atomic_table.specs.Table.{stepped, takes, keeps, gives, opening}
use Rattle.dev_core.specs.declared.post.Post.{Post}
use Rattle.floor_core.specs.Floor.{Board, Floor, posted_by}
use Rattle.floor_core.specs.Job.{Job}
use Rattle.floor_core.specs.Sound.{Sound}
use Rattle.floor_run.specs.declared.view.View.{View}
use Rattle.floor_run.specs.Rule.{Table, Holds, home_word}
use Rattle.floor_run.specs.Turns.{slots_left, paid}
use Rattle.floor_run.specs.View.{fresh, spent, after_claim, empty_handed}

module _ {J : Type 0} where
  -- the word of board i
  abbrev pub word : Table J → ℕ → ℕ
  word s i = slice_index_or s.words (i + 1) 0

  -- a claim of board i that wins its job: it sets bit 0 of the word and takes the cell
  abbrev pub after_won : Table J → ℕ → View J → ℕ → J → Table J
  after_won s seat v i job =
      stepped s (i + 1) (bit_or (word s i) 1) seat [] (after_claim v i (word s i) (Some job)) (takes i (Some job))

  -- one that wins nothing: it sets bit 0 of the word
  abbrev pub after_missed : Table J → ℕ → View J → ℕ → Table J
  after_missed s seat v i =
      stepped s (i + 1) (bit_or (word s i) 1) seat [] (after_claim v i (word s i) None) keeps

  -- a report of board i: it stores the word and gives the cell back, with the job in it
  abbrev pub after_report : Table J → ℕ → View J → ℕ → ℕ → J → Table J
  after_report s seat v i new job = stepped s (i + 1) new seat ((i, Some job) ∷ []) (empty_handed v) gives

  abbrev pub after_split : Table J → View J → Table J
  after_split s v = record s { views = s.views ++ empty_handed v ∷ [] }

  abbrev pub after_join : Table J → ℕ → Table J
  after_join s other = record s { views = slice_set s.views other spent }

module _ {J S : Type 0} (meaning : J → Job S) where
  -- the slots of a job's next turn
  abbrev pub turn_slots : J → ℕ
  turn_slots job = min 4096 (slots_left meaning job)

  -- words, cells and views as the bench is opened
  abbrev pub opened : List J → Table J
  opened starts = opening (0 ∷ map (home_word (slots_left meaning) 0) starts) (map Some starts) (fresh starts)

  -- out: the word says how many slots are used with this turn, and the worker is the seat that holds the board
  pub record ShowsOut (s : Table J) (start : J) (i : ℕ) (b : Board S) : Type 0 where
    pub word_is : word s i % 4 ≡ 1
    pub used : b.used ≡ paid meaning start (word s i / 4 + 1)
    pub worker : (seat : ℕ) × (b.worker ≡ Some seat) × Holds s.views i seat

  module _ (sent : J → List Post) where
    -- At home: the word says how many slots are used, and the job lies in the cell. What that has sent is what its
    -- start had sent, and then what the floor has posted for it.
    pub record ShowsHome (s : Table J) (start : J) (i : ℕ) (b : Board S) (posted : List Post) : Type 0 where
      pub word_is : (word s i % 4 ≡ 0) ⊎ (word s i % 4 ≡ 3)
      pub worker : b.worker ≡ None
      pub used : b.used ≡ paid meaning start (word s i / 4)
      pub all_sent : b.job.unsent ≡ []
      pub job :
          (job : J) × (get_elem? s.homes i ≡ some (some (Some job))) × (meaning job ≡ b.job) ×
          (sent job ≡ sent start ++ posted)

    abbrev pub ShowsBoard : Table J → J → ℕ → Board S → List Post → Type 0
    ShowsBoard s start i b posted = ShowsHome s start i b posted ⊎ ShowsOut s start i b

    -- The floor is sound, each board of it is shown, and the round goes on. Which posts of a board that is out are in
    -- the mail already is the floor's alone: no word tells it.
    pub record Shows (state_after : S → List (Option Post) → ℕ → S) (starts : List J) (s : Table J)
        (f : Floor S) : Type 0 where
      pub sound : Sound state_after (map meaning starts) f
      pub each : (i : ℕ) (start : J) (b : Board S) →
          get_elem? starts i ≡ some start → get_elem? f.boards i ≡ some b →
          ShowsBoard s start i b (posted_by i f.mail)
      pub goes_on : f.is_ended ≡ false
