-- What a stretch sends and tells of, and when.
use Rattle.std.proofs.Common.{◌≡◌, ◌∙◌, ℕ, zero, suc, ◌+◌, ◌<◌, List, [], ◌∷◌, ◌++◌, length, refl, arith}
use Rattle.std.specs.List.{All}
use Rattle.std.proofs.lemmas.List.Elements.{All-nil, All-cons, All-append, All-weaker}
use Rattle.dev_core.specs.declared.post.Entry.{Entry}
use Rattle.dev_core.specs.declared.post.Post.{Post}
use Rattle.lab_num.specs.Paid.{slot_at}
use Rattle.sys_bus.specs.Plan.{IsValid}
use Rattle.board.specs.HartView.{hart_view}
use Rattle.board.specs.Sent.{IsSentIn, IsEnteredIn, IsSentBy, IsToldBy}
use Rattle.board.specs.Slot.{slot, in_turn}
use Rattle.board.specs.Stretch.{stretch}
use Rattle.board.specs.View.{View, State}
use Rattle.board.proofs.NumberLemmas.{kept-stretch, number-stretch}
use Rattle.board.proofs.SlotLemmas.{by_slot}
use Rattle.board.proofs.ToldLemmas.{IsSender, sender_kept, IsTold}

-- a post and an entry of the slot that a board takes at this microsecond
record IsPosted (post : Post) (v : View) (t : ℕ) : Type 0 where
  pub at : post.key.at.0 ≡ t
  pub board : post.from.board.0 ≡ v.numbers.number
  pub sender : IsSender v.space post.from.dev post.payload

record IsEntered (entry : Entry) (v : View) (t : ℕ) : Type 0 where
  pub at : entry.key.at.0 ≡ t
  pub told : IsTold v.space entry.what

-- all that was made
record AreMade (P : Post → Type 0) (E : Entry → Type 0) (run : State) : Type 0 where
  pub posts : All P run.posts
  pub entries : All E run.entries

-- ---- in a slot

module _ (v : View) (t : ℕ) where
  abbrev IsPostHere : Post → Type 0
  IsPostHere post = IsPosted post v t

  abbrev IsEntryHere : Entry → Type 0
  IsEntryHere entry = IsEntered entry v t

  one_post :
      (post : Post) → post.key.at.0 ≡ t → post.from.board.0 ≡ v.numbers.number →
      IsSender v.space post.from.dev post.payload → All IsPostHere (post ∷ [])
  one_post post at board sender =
      All-cons IsPostHere post [] (record { at = at; board = board; sender = sender }) (All-nil IsPostHere)

  one_entry :
      (entry : Entry) → entry.key.at.0 ≡ t → IsTold v.space entry.what → All IsEntryHere (entry ∷ [])
  one_entry entry at told =
      All-cons IsEntryHere entry [] (record { at = at; told = told }) (All-nil IsEntryHere)

  made_slot : AreMade IsPostHere IsEntryHere (slot v t)
  unfolding slot
  made_slot =
      by_slot (λ run. AreMade IsPostHere IsEntryHere (in_turn v run)) (hart_view v v.next) t
      (record {
        nothing = λ s kept core watch. record { posts = All-nil IsPostHere; entries = All-nil IsEntryHere };
        entry = λ s note kept told core watch. record {
          posts = All-nil IsPostHere;
          entries = one_entry _ refl told;
        };
        post = λ s dev payload kept sender core watch. record {
          posts = one_post _ refl refl sender;
          entries = All-nil IsEntryHere;
        };
        both = λ s dev payload note kept sender told core watch. record {
          posts = one_post _ refl refl sender;
          entries = one_entry _ refl told;
        };
      })

-- ---- in a stretch

-- it holds of one of the slots of a stretch
record InSlot (v : View) (from a n : ℕ) (P : View → ℕ → Type 0) : Type 0 where
  pub slot : ℕ
  pub within : slot < n
  pub holds : P (stretch v from a slot).view (slot_at from v.numbers.speed (a + slot))

-- what was made in so many slots, and in one more
one_more_slot :
    {X : Type 0} (v : View) (from a n : ℕ) (P : X → View → ℕ → Type 0) (xs ys : List X) →
    All (λ x. InSlot v from a n (P x)) xs →
    All (λ x. P x (stretch v from a n).view (slot_at from v.numbers.speed (a + n))) ys →
    All (λ x. InSlot v from a (suc n) (P x)) (xs ++ ys)
one_more_slot {X} v from a n P xs ys before now =
    let Later : X → Type 0 = λ x. InSlot v from a (suc n) (P x) in
    All-append Later xs ys
    (All-weaker (λ x. InSlot v from a n (P x)) Later
    (λ x made. record { slot = made.slot; within = omega (arith, made.within); holds = made.holds }) xs before)
    (All-weaker (λ x. P x (stretch v from a n).view (slot_at from v.numbers.speed (a + n))) Later
    (λ x made. record { slot = n; within = omega arith; holds = made }) ys now)

abbrev IsPostOf : View → ℕ → ℕ → ℕ → Post → Type 0
IsPostOf v from a n post = InSlot v from a n (IsPosted post)

abbrev IsEntryOf : View → ℕ → ℕ → ℕ → Entry → Type 0
IsEntryOf v from a n entry = InSlot v from a n (IsEntered entry)

made-stretch : (v : View) (from a n : ℕ) → AreMade (IsPostOf v from a n) (IsEntryOf v from a n) (stretch v from a n)
unfolding stretch
made-stretch v from a zero =
    record { posts = All-nil (IsPostOf v from a 0); entries = All-nil (IsEntryOf v from a 0) }
made-stretch v from a (suc n) =
    let before = made-stretch v from a n in
    let now = made_slot (stretch v from a n).view (slot_at from v.numbers.speed (a + n)) in
    record {
      posts = one_more_slot v from a n IsPosted _ _ before.posts now.posts;
      entries = one_more_slot v from a n IsEntered _ _ before.entries now.entries;
    }

pub sent-stretch : (v : View) (from a n : ℕ) → All (IsSentIn from a n v.numbers.speed) (stretch v from a n).posts
sent-stretch v from a n =
    All-weaker (IsPostOf v from a n) (IsSentIn from a n v.numbers.speed)
    (λ post made. record { slot = made.slot; within = made.within; at = made.holds.at }) _
    (made-stretch v from a n).posts

pub entered-stretch :
    (v : View) (from a n : ℕ) → All (IsEnteredIn from a n v.numbers.speed) (stretch v from a n).entries
entered-stretch v from a n =
    All-weaker (IsEntryOf v from a n) (IsEnteredIn from a n v.numbers.speed)
    (λ entry made. record { slot = made.slot; within = made.within; at = made.holds.at }) _
    (made-stretch v from a n).entries

-- devices of the board send, where the plan reaches no others,
pub senders-stretch :
    (v : View) (from a n : ℕ) → IsValid v.space.plan → length v.space.devices ≡ length v.space.plan.kinds →
    All (IsSentBy v) (stretch v from a n).posts
senders-stretch v from a n valid count =
    All-weaker (IsPostOf v from a n) (IsSentBy v)
    (λ post made.
    let kept = kept-stretch v from a made.slot in
    let sender = sender_kept v.space _ post.from.dev post.payload kept made.holds.sender in
    record {
      board = made.holds.board ∙ number-stretch v from a made.slot;
      device = sender.there valid count;
      payload = sender.own;
    }) _ (made-stretch v from a n).posts

-- and what is told of them is told of shown ones
pub told-stretch : (v : View) (from a n : ℕ) → All (λ entry. IsToldBy v entry.what) (stretch v from a n).entries
told-stretch v from a n =
    All-weaker (IsEntryOf v from a n) (λ entry. IsToldBy v entry.what)
    (λ entry made. made.holds.told v (kept-stretch v from a made.slot)) _ (made-stretch v from a n).entries
