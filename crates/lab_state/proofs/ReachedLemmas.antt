-- What holds of a laboratory that is not spent, between two rounds.
use Rattle.std.proofs.Common.{◌≡◌, ℕ, ◌*◌, Bool, false, subst}
use Rattle.lab_state.specs.Lab.{Lab, Seen}
use Rattle.time_source.specs.Tree.{Tree}
use Rattle.lab_state.specs.Inner.Spares.{Spares}
use Rattle.lab_state.specs.Inner.Standing.{IsSound}
use Rattle.lab_state.specs.Inner.Time.{numbers_of, AreStanding}
use Rattle.lab_state.specs.Pending.{ArePending}
use Rattle.lab_state.proofs.SoundLemmas.{unspent}

-- a laboratory whose posts wait rightly, and whose boards have made few posts
pub record IsReached (lab : Lab) : Type 0 where
  pub pending : ArePending lab.hubs lab.now lab.pending
  pub standing : AreStanding (1000 * lab.now) (numbers_of lab.boards)

-- so is a laboratory that holds what one holds that is not spent
pub reached_now :
    {lab : Lab} {spent : Bool} {s : Seen} {spares : Spares} {source : Tree} →
    (spent ≡ false → IsSound lab spares source) → record { lab = lab; spent = spent } ≡ s → s.spent ≡ false →
    lab.now ≡ source.end → IsReached s.lab
reached_now sound is whole time =
    let here = unspent sound is whole in
    subst (λ (s : Seen). IsReached s.lab) is (record { pending = here.pending; standing = rw time here.timed.standing })
