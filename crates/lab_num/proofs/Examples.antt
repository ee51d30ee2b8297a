-- The definitions computed on examples.
use Rattle.std.proofs.Common.{◌≡◌, ℕ, [], ◌∷◌, refl, Ok, Err}
use Rattle.std.specs.Prelude.{codes}
use Rattle.lab_num.specs.declared.key.Key.{Key}
use Rattle.lab_num.specs.declared.key.Member.{Member}
use Rattle.lab_num.specs.declared.time.TimeFault.TheVariants.{Form, Limit}
use Rattle.lab_num.specs.Listing.{listing}
use Rattle.lab_num.specs.Paid.{paid, slot_at}
use Rattle.lab_num.specs.Route.{route}
use Rattle.lab_num.specs.Time.{time_of}

-- at speed 1 a grant of 2 microseconds pays slots 0 and 1, and slot 2 would lie at its end
pays_two : paid 0 2 1 ≡ 2
pays_two = refl

lies_at_the_end : slot_at 0 1 2 ≡ 2
lies_at_the_end = refl

-- at speed 25 a grant from 100 to 200 pays 2,500 slots, and the last lies in microsecond 199
pays_the_grant : paid 100 200 25 ≡ 2500
pays_the_grant = refl

lies_in_the_grant : slot_at 100 25 2499 ≡ 199
lies_in_the_grant = refl

-- times
three_hundred : time_of (codes "0.0003") ≡ Ok (record { 0 = 300 })
three_hundred = refl

one_hour : time_of (codes "1:00:00") ≡ Ok (record { 0 = 3600000000 })
one_hour = refl

latest : time_of (codes "10000") ≡ Ok (record { 0 = 10000000000 })
latest = refl

too_late : time_of (codes "10000.000001") ≡ Err Limit
too_late = refl

seven_digits : time_of (codes "0.0000001") ≡ Err Form
seven_digits = refl

sixty_minutes : time_of (codes "0:60:00") ≡ Err Form
sixty_minutes = refl

signed : time_of (codes "+1") ≡ Err Form
signed = refl

key : ℕ → ℕ → ℕ → Key
key at board number =
    record { at = record { 0 = at }; board = record { 0 = board }; number = record { 0 = number } }

-- three keys of one microsecond and one of an earlier one
by_time_then_board :
    listing (λ k. k) (key 2 1 0 ∷ key 2 0 5 ∷ key 2 0 4 ∷ key 1 3 9 ∷ [])
    ≡ key 1 3 9 ∷ key 2 0 4 ∷ key 2 0 5 ∷ key 2 1 0 ∷ []
unfolding listing key
by_time_then_board = refl

member : ℕ → ℕ → Member
member board dev = record { board = record { 0 = board }; dev = dev }

-- two hubs: the others of the sender's hub, in order of connection, and none for a member of no hub
to_the_others :
    route ((member 2 0 ∷ []) ∷ (member 1 0 ∷ member 0 1 ∷ member 0 0 ∷ []) ∷ []) (member 0 1)
    ≡ member 1 0 ∷ member 0 0 ∷ []
unfolding member
to_the_others = refl

to_nobody : route ((member 2 0 ∷ []) ∷ []) (member 0 1) ≡ []
unfolding member
to_nobody = refl
