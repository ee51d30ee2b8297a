-- How each step changes the views of the seats.
use Rattle.std.specs.Prelude.{ℕ, ◌+◌, List, [], ◌∷◌, ◌++◌}
use Rattle.dev_core.specs.declared.post.Post.{Post}
use Rattle.hub_mail.specs.declared.view.Sent.{Sent}
use Rattle.hub_mail.specs.declared.view.View.{View}
use Rattle.hub_mail.specs.declared.view.View.TheVariants.{Owner, Sender, Spent}

abbrev pub owner : ℕ → List Post → List Sent → View
owner count popped taken = Owner count popped taken

abbrev pub spent : View
spent = Spent

-- the boss of a new mail
abbrev pub first : View
first = Owner 0 [] []

-- a split: the boss has made one pass more
abbrev pub one_more : View → View
one_more (Owner count popped taken) = Owner (count + 1) popped taken
one_more (Sender board posts) = Sender board posts
one_more Spent = Spent

-- the pass that is split off has the next number
abbrev pub next_pass : View → View
next_pass (Owner count popped taken) = Sender count []
next_pass (Sender board posts) = Spent
next_pass Spent = Spent

-- a push
abbrev pub with_post : View → Post → View
with_post (Owner count popped taken) post = Owner count popped taken
with_post (Sender board posts) post = Sender board (posts ++ post ∷ [])
with_post Spent post = Spent

-- a pop
abbrev pub with_drawn : View → Post → View
with_drawn (Owner count popped taken) post = Owner count (popped ++ post ∷ []) taken
with_drawn (Sender board posts) post = Sender board posts
with_drawn Spent post = Spent

-- what a pass that is taken in has posted
abbrev pub sent_of : View → List Sent
sent_of (Owner count popped taken) = []
sent_of (Sender board posts) = record { board = board; posts = posts } ∷ []
sent_of Spent = []

-- a join
abbrev pub with_pass : View → View → View
with_pass (Owner count popped taken) pass = Owner count popped (taken ++ sent_of pass)
with_pass (Sender board posts) pass = Sender board posts
with_pass Spent pass = Spent
