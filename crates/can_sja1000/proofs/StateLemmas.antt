-- Each call leaves a valid state.
use Rattle.std.proofs.Common.{◌≡◌, ℕ, zero, suc, ◌+◌, ◌≤◌, ◌%◌, ◌^◌, Bool, true, false, cond, List, [], ◌∷◌}
use Rattle.std.proofs.Common.{find}
use Rattle.std.proofs.Common.{◌-◌, ◌||◌, ◌==◌, not, if◌then◌else◌, unwrap_or, sum_by, Some, nat_le, All, arith, refl}
use Rattle.std.proofs.Common.{leb-true}
use Rattle.dev_core.specs.declared.payload.Taken.TheVariants.{Kept, Refused, Overrun}
use Rattle.dev_core.specs.Answered.{unchanged}
use Rattle.dev_core.specs.CanBits.{tr, rrb, cdo}
use Rattle.dev_core.specs.Can.{overrun_cleared}
use Rattle.std.proofs.lemmas.List.Elements.{All-head, All-tail}
use Rattle.std.proofs.lemmas.List.Sums.{sum_by_push}
use Rattle.dev_core.specs.declared.can_state.CanState.{CanState}
use Rattle.dev_core.specs.declared.payload.Payload.TheVariants.{Byte, Frame, Finish}
use Rattle.dev_core.specs.Bit.{is_set}
use Rattle.dev_core.specs.Can.{Access, CanRegister, IsCanState, access_at, buffer_released, can_load, can_receive}
use Rattle.dev_core.specs.Can.{can_register_at, can_store, can_store_byte, cdr_stored, clock_stored}
use Rattle.dev_core.specs.Can.{commanded}
use Rattle.dev_core.specs.Can.{cmr_stored, cr_stored, entered_by, frame_kept, frame_lost, is_accepted, is_among_ten}
use Rattle.dev_core.specs.Can.{is_reset_mode, no_can_register, single_registers, transmit_register}
use Rattle.dev_core.specs.Frame.{FrameData, held_size}
use Rattle.can_sja1000.specs.Calls.{Call, after_call, after_calls, loads, stores, takes}
use Rattle.can_sja1000.proofs.DividerLemmas.{divider_clock_replaced, divider_replaced}
use Rattle.can_sja1000.proofs.HeldLemmas.{held-drop_first}

-- a register that keeps states valid in one mode, and in both
abbrev Keeps : Access → Type 0
Keeps a = (c : CanState) (byte : ℕ) → IsCanState c → IsCanState (a.loaded c) × IsCanState (a.stored c byte)

abbrev KeepsBoth : CanRegister → Type 0
KeepsBoth r = Keeps r.operating × Keeps r.resetting

closed_keeps : Keeps no_can_register.operating
closed_keeps c byte v = (v, v)

-- the same control, divider and frames
plain :
    (c d : CanState) → IsCanState c → d.control ≡ c.control → d.divider ≡ c.divider → d.received ≡ c.received →
    IsCanState d
plain c d v a b e = record { control = rw a v.control; divider = rw b v.divider; received = rw e v.received }

-- one of two valid states is valid
either : (b : Bool) (x y : CanState) → IsCanState x → IsCanState y → IsCanState (cond b x y)
either true x y v w = v
either false x y v w = w

cr_keeps : (c : CanState) (byte : ℕ) → IsCanState c → IsCanState (cr_stored c byte)
cr_keeps c byte v =
    let low : byte % 2 ^ 5 ≤ 0x1F = omega arith in
    either (entered_by c byte) _ _ (record { control = low; divider = v.divider; received = omega arith })
    (record { control = low; divider = v.divider; received = v.received })

released_keeps : (c : CanState) → IsCanState c → IsCanState (buffer_released c)
released_keeps c v = record {
  control = v.control;
  divider = v.divider;
  received = omega (arith, held-drop_first c.received, v.received);
}

cmr_keeps : (c : CanState) (byte : ℕ) → IsCanState c → IsCanState (cmr_stored c byte)
cmr_keeps c byte v =
    let x = commanded (is_set byte cdo) overrun_cleared c in
    let cleared : IsCanState x = either (is_set byte cdo) _ c (plain c _ v refl refl refl) v in
    let y = commanded (is_set byte rrb) buffer_released x in
    let released : IsCanState y = either (is_set byte rrb) _ x (released_keeps x cleared) cleared in
    either (is_set byte tr) _ y (plain y _ released refl refl refl) released

still : (c : CanState) (byte : ℕ) → IsCanState c → IsCanState c × IsCanState c
still c byte v = (v, v)

clock_keeps : (c : CanState) (byte : ℕ) → IsCanState c → IsCanState c × IsCanState (clock_stored c byte)
clock_keeps c byte v = (
  v,
  record {
    control = v.control;
    divider = divider_clock_replaced c.divider byte;
    received = v.received;
  },
)

divider_keeps : (c : CanState) (byte : ℕ) → IsCanState c → IsCanState c × IsCanState (cdr_stored c byte)
divider_keeps c byte v =
    (v, record { control = v.control; divider = divider_replaced byte; received = v.received })

-- each register of the table, in its order
each_keeps : All KeepsBoth single_registers
each_keeps zero d within = (λ c byte v. (v, cr_keeps c byte v), λ c byte v. (v, cr_keeps c byte v))
each_keeps (suc zero) d within = (λ c byte v. (v, cmr_keeps c byte v), still)
each_keeps (suc (suc zero)) d within = (still, still)
each_keeps (suc (suc (suc zero))) d within =
    (λ c byte v. (plain c _ v refl refl refl, v), λ c byte v. (plain c _ v refl refl refl, v))
each_keeps (suc (suc (suc (suc zero)))) d within = (still, λ c byte v. (v, plain c _ v refl refl refl))
each_keeps (suc (suc (suc (suc (suc zero))))) d within = (still, λ c byte v. (v, plain c _ v refl refl refl))
each_keeps (suc (suc (suc (suc (suc (suc zero)))))) d within = (still, λ c byte v. (v, plain c _ v refl refl refl))
each_keeps (suc (suc (suc (suc (suc (suc (suc zero))))))) d within =
    (still, λ c byte v. (v, plain c _ v refl refl refl))
each_keeps (suc (suc (suc (suc (suc (suc (suc (suc zero)))))))) d within =
    (still, λ c byte v. (v, plain c _ v refl refl refl))
each_keeps (suc (suc (suc (suc (suc (suc (suc (suc (suc zero))))))))) d within = (clock_keeps, divider_keeps)
each_keeps (suc (suc (suc (suc (suc (suc (suc (suc (suc (suc k)))))))))) d within = absurd (omega (arith, within))

-- and so the one that is found
found :
    (p : CanRegister → Bool) (rs : List CanRegister) → All KeepsBoth rs →
    KeepsBoth (unwrap_or (find p rs) no_can_register)
found p [] all = (closed_keeps, closed_keeps)
found p (r ∷ rs) all =
    pick (p r) (All-head KeepsBoth r rs all) (found p rs (All-tail KeepsBoth r rs all))
  where
    pick :
        (b : Bool) → KeepsBoth r → KeepsBoth (unwrap_or (find p rs) no_can_register) →
        KeepsBoth (unwrap_or (cond b (Some r) (find p rs)) no_can_register)
    pick true here later = here
    pick false here later = later

one_of : (b : Bool) (r s : CanRegister) → KeepsBoth r → KeepsBoth s → KeepsBoth (cond b r s)
one_of true r s kept other = kept
one_of false r s kept other = other

-- a register at any address, in the present mode
at_keeps : (c : CanState) (address : ℕ) → Keeps (access_at c address)
at_keeps c address = in_mode (is_reset_mode c)
  where
    transmit_keeps : (place : ℕ) → KeepsBoth (transmit_register place)
    transmit_keeps place = (λ c byte v. (v, plain c _ v refl refl refl), closed_keeps)

    both : KeepsBoth (can_register_at address)
    both =
        one_of (is_among_ten 10 address) _ _ (transmit_keeps (address - 10))
        (one_of (is_among_ten 20 address) _ _ (λ c byte v. (v, v), λ c byte v. (v, v))
        (found (λ r. r.address == address) single_registers each_keeps))

    in_mode : (b : Bool) → Keeps (cond b (can_register_at address).resetting (can_register_at address).operating)
    in_mode true = both.1
    in_mode false = both.0

load_keeps : (c : CanState) (reg : ℕ) → IsCanState c → IsCanState (can_load c reg).after
unfolding can_load
load_keeps c reg v = (at_keeps c reg c 0 v).0

store_keeps : (c : CanState) (reg value : ℕ) → IsCanState c → IsCanState (can_store c reg value).after
unfolding can_store_byte
store_keeps c reg value v = (at_keeps c reg c (value % 2 ^ 8) v).1

receive_keeps : (c : CanState) (frame : FrameData) → IsCanState c → IsCanState (can_receive c frame).after
unfolding can_receive
receive_keeps c frame v =
    by (is_reset_mode c || not (is_accepted c.code c.mask frame.id))
    (nat_le (sum_by held_size c.received + held_size frame) 64) (leb-true _ 64)
  where
    by : (refused fits : Bool) → (fits ≡ true → sum_by held_size c.received + held_size frame ≤ 64) →
        IsCanState
        (if refused then unchanged Refused c
        else if fits then record { answer = Kept; after = frame_kept c frame }
        else record { answer = Overrun; after = frame_lost c }).after
    by true fits room = v
    by false true room =
        record {
          control = v.control;
          divider = v.divider;
          received = rw sum_by_push (room refl);
        }
    by false false room = either c.dos c _ v (plain c _ v refl refl refl)

call_keeps : (c : CanState) (call : Call) → IsCanState c → IsCanState (after_call c call)
call_keeps c (loads reg) v = load_keeps c reg v
call_keeps c (stores reg value) v = store_keeps c reg value v
call_keeps c (takes (Byte byte)) v = v
call_keeps c (takes (Frame frame)) v = receive_keeps c frame v
call_keeps c (takes (Finish finish)) v = v

-- any calls
pub calls_keep : (c : CanState) (calls : List Call) → IsCanState c → IsCanState (after_calls c calls)
calls_keep c [] v = v
calls_keep c (call ∷ calls) v = calls_keep (after_call c call) calls (call_keeps c call v)
