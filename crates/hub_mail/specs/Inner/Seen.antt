-- What contracts see, from the view of a seat.
use Rattle.std.specs.Prelude.{◌≡◌, ℕ, List, []}
use Rattle.dev_core.specs.declared.post.Post.{Post}
use Rattle.hub_mail.specs.declared.view.Sent.{Sent}
use Rattle.hub_mail.specs.declared.view.View.{View}
use Rattle.hub_mail.specs.declared.view.View.TheVariants.{Owner, Sender, Spent}
use Rattle.hub_mail.specs.Pass.{MailId, Pass, fresh}
use Rattle.hub_mail.specs.Boss.{Boss}

-- what is shown of another seat than a pass's never counts
abbrev pub pass_of : MailId → View → Pass
pass_of mail (Owner count popped taken) = fresh mail 0
pass_of mail (Sender board posts) = record { mail = mail; board = board; posted = posts }
pass_of mail Spent = fresh mail 0

abbrev pub boss_of : MailId → View → Boss
boss_of mail (Owner count popped taken) = record { mail = mail; count = count; taken = taken }
boss_of mail (Sender board posts) = record { mail = mail; count = 0; taken = [] }
boss_of mail Spent = record { mail = mail; count = 0; taken = [] }

abbrev pub IsSender : View → Type 0
IsSender view = (board : ℕ) × (posts : List Post) × (view ≡ Sender board posts)

-- the boss pops nothing before the drain
abbrev pub IsOwner : View → Type 0
IsOwner view = (count : ℕ) × (taken : List Sent) × (view ≡ Owner count [] taken)
