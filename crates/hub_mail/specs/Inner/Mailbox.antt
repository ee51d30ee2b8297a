-- The rule of the mailbox, which holds between any two steps.
use Rattle.std.specs.Prelude.{◌≡◌, ◌≢◌, ℕ, ◌<◌, eqb, List, [], ◌++◌, map}
use Rattle.std.specs.List.{IsDistinct}
use mathlib.Core.Option.{Option, some, none}
use lib.ListN.{get_elem?}
use Rattle.dev_core.specs.declared.post.Post.{Post}
use Rattle.hub_mail.specs.declared.view.Sent.{Sent}
use Rattle.hub_mail.specs.declared.view.View.{View}
use Rattle.hub_mail.specs.declared.view.View.TheVariants.{Owner, Sender, Spent}
use Rattle.hub_mail.specs.Posts.{of_board, RiseByNumber}
use Rattle.hub_mail.specs.Boss.{posted_by}

abbrev pub boards : List Sent → List ℕ
boards taken = map (λ sent. sent.board) taken

-- the boss's part: where its seat stands among the views, and what it knows
pub record Desk : Type 0 where
  pub place : ℕ
  pub count : ℕ
  pub popped : List Post
  pub taken : List Sent

-- a view at a place: there is one boss; a pass in hand stands where `seat` has its number, which is below the count,
-- and has posted what there is of its board among all posts
abbrev pub Fits : Desk → (ℕ → Option ℕ) → List Post → ℕ → View → Type 0
Fits desk seat all place (Owner count popped taken) =
    (place ≡ desk.place) × (count ≡ desk.count) × (popped ≡ desk.popped) × (taken ≡ desk.taken)
Fits desk seat all place (Sender board posts) =
    (seat board ≡ some place) × (board < desk.count) × (posts ≡ of_board board all)
Fits desk seat all place Spent = Unit {0}

-- what was posted for a pass that was taken in; no pass in hand has its number
abbrev pub FitsTaken : Desk → (ℕ → Option ℕ) → List Post → Sent → Type 0
FitsTaken desk seat all sent =
    (seat sent.board ≡ none) × (sent.board < desk.count) × (sent.posts ≡ of_board sent.board all)

-- no pass has the number, be it in hand or taken in
pub record HasNoPass (views : List View) (taken : List Sent) (board : ℕ) : Type 0 where
  pub not_in_hand : (place : ℕ) (posts : List Post) → get_elem? views place ≢ some (Sender board posts)
  pub not_taken : (k : ℕ) (sent : Sent) → get_elem? taken k ≡ some sent → sent.board ≢ board

-- of what the queue holds, oldest first, and of what each seat knows. All posts are those popped, and then those in the
-- queue
pub record Mailbox (items : List Post) (views : List View) : Type 0 where
  pub desk : Desk
  -- the place of the pass in hand that has a number, if there is one
  pub seat : ℕ → Option ℕ
  -- no number belongs to two passes, be they in hand or taken in
  pub apart : IsDistinct eqb (boards desk.taken)
  -- a number without a pass has no post
  pub unused : (board : ℕ) → HasNoPass views desk.taken board → of_board board (desk.popped ++ items) ≡ []
  -- the posts of each board rise by number
  pub rising : (board : ℕ) → RiseByNumber (of_board board (desk.popped ++ items))
  -- the posts of each board are those of its pass, be it taken in or in hand
  pub taken : (k : ℕ) (sent : Sent) → get_elem? desk.taken k ≡ some sent →
      FitsTaken desk seat (desk.popped ++ items) sent
  pub in_hand : (place : ℕ) (view : View) → get_elem? views place ≡ some view →
      Fits desk seat (desk.popped ++ items) place view

-- posts that are all those of the passes that were taken in, each board's in order
pub record AreAll (taken : List Sent) (posts : List Post) : Type 0 where
  pub apart : IsDistinct eqb (boards taken)
  pub boards : (board : ℕ) → of_board board posts ≡ posted_by board taken
  pub each : (k : ℕ) (sent : Sent) → get_elem? taken k ≡ some sent → sent.posts ≡ of_board sent.board posts
  pub rising : (board : ℕ) → RiseByNumber (of_board board posts)

-- what the end of a drain tells
abbrev pub Told : View → List Post → Type 0
Told (Owner count popped taken) items = AreAll taken (popped ++ items)
Told (Sender board posts) items = Unit {0}
Told Spent items = Unit {0}
