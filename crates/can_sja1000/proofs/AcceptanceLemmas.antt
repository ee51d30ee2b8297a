-- Which frames a controller refuses.
use Rattle.std.proofs.Common.{◌≡◌, ◌∙◌, ◌/◌, ◌^◌, ◌==◌, ◌||◌, not, nat_le, ◌+◌, Bool, true, false, if◌then◌else◌}
use Rattle.std.proofs.Common.{[]}
use Rattle.std.proofs.Common.{◌∷◌, refl, sym, sum_by}
use Rattle.std.specs.Int.{bit_at}
use Rattle.std.specs.List.{list_all}
use Rattle.dev_core.specs.declared.can_state.CanState.{CanState}
use Rattle.dev_core.specs.declared.payload.Taken.{Taken}
use Rattle.dev_core.specs.declared.payload.Taken.TheVariants.{Kept, Refused, Overrun}
use Rattle.dev_core.specs.Answered.{Answered, unchanged}
use Rattle.dev_core.specs.Bit.{is_set}
use Rattle.dev_core.specs.Can.{can_receive, frame_kept, frame_lost, is_accepted, is_reset_mode}
use Rattle.dev_core.specs.Frame.{FrameData, held_size}

-- what comes of a frame, by whether it is refused and whether it fits
abbrev received_by : CanState → FrameData → Bool → Bool → Answered Taken CanState
received_by c frame refused fits =
    if refused then unchanged Refused c
    else if fits then record { answer = Kept; after = frame_kept c frame }
    else record { answer = Overrun; after = frame_lost c }

abbrev is_refused : CanState → FrameData → Bool
is_refused c frame = is_reset_mode c || not (is_accepted c.code c.mask frame.id)

-- the answer tells whether it is refused
told :
    (c : CanState) (f : FrameData) (refused fits : Bool) →
    (received_by c f refused fits).answer ≡ Refused → refused ≡ true
told c f true fits is = refl
told c f false true is = cc
told c f false false is = cc

answered :
    (c : CanState) (f : FrameData) (refused fits : Bool) →
    refused ≡ true → (received_by c f refused fits).answer ≡ Refused
answered c f true fits is = refl
answered c f false fits is = cc

refused_where : (c : CanState) (f : FrameData) → (can_receive c f).answer ≡ Refused → is_refused c f ≡ true
unfolding can_receive
refused_where c f is = told c f (is_refused c f) (nat_le (sum_by held_size c.received + held_size f) 64) is

where_refused : (c : CanState) (f : FrameData) → is_refused c f ≡ true → (can_receive c f).answer ≡ Refused
unfolding can_receive
where_refused c f is = answered c f (is_refused c f) (nat_le (sum_by held_size c.received + held_size f) 64) is

-- two controllers refuse two frames alike
pub refused_alike :
    (c d : CanState) (f g : FrameData) →
    is_reset_mode c ≡ is_reset_mode d → c.code ≡ d.code → c.mask ≡ d.mask → f.id / 2 ^ 3 ≡ g.id / 2 ^ 3 →
    (can_receive c f).answer ≡ Refused → (can_receive d g).answer ≡ Refused
refused_alike c d f g mode code mask upper is =
    let same : is_refused d g ≡ is_refused c f =
    λ i.
    sym mode i
    || not
    (list_all (λ n. is_set (sym mask i) n || bit_at (sym upper i) n == bit_at (sym code i) n)
    (0 ∷ 1 ∷ 2 ∷ 3 ∷ 4 ∷ 5 ∷ 6 ∷ 7 ∷ [])) in
    where_refused d g (same ∙ refused_where c f is)

-- a frame that is kept is held at the end
kept_by : (c : CanState) (f : FrameData) (refused fits : Bool) →
    (received_by c f refused fits).answer ≡ Kept → (received_by c f refused fits).after ≡ frame_kept c f
kept_by c f true fits is = cc
kept_by c f false true is = refl
kept_by c f false false is = cc

pub kept : (c : CanState) (f : FrameData) → (can_receive c f).answer ≡ Kept → (can_receive c f).after ≡ frame_kept c f
unfolding can_receive
kept c f is = kept_by c f (is_refused c f) (nat_le (sum_by held_size c.received + held_size f) 64) is
