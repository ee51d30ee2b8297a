-- Frames, rows of them and states of a CAN controller compare as equal exactly where they are one.
use Rattle.std.proofs.Common.{◌≡◌, ap, arith, refl, Bool, true, List}
use Rattle.std.specs.Bool.{Decides, beq}
use Rattle.std.specs.Prelude.{◌&&◌, nat_eq}
use Rattle.std.specs.Cmp.Lexicographic.{pointwise, pointwise_decides, bytes_decides}
use Rattle.std.proofs.lemmas.Bool.Decides.{Decides-and, Decides-like, Decides-eqb}
use Rattle.dev_core.specs.declared.can_state.CanState.{CanState}
use Rattle.dev_core.specs.declared.state.DevState.TheVariants as DevState
use Rattle.dev_core.specs.Frame.{FrameData, same_frame}

bools_decide : (a b : Bool) → Decides (beq a b) (a ≡ b)
bools_decide a b = (grind (arith), grind (arith))

frame_decides : (a b : FrameData) → Decides (same_frame a b) (a ≡ b)
frame_decides a b =
    let ids = Decides-eqb a.id b.id in
    let remotes = bools_decide a.remote b.remote in
    let lens = Decides-eqb a.len b.len in
    let bytes = bytes_decides a.bytes b.bytes in
    Decides-like _
    (λ e. λ i. record { id = e.0.0.0 i; remote = e.0.0.1 i; len = e.0.1 i; bytes = e.1 i })
    (λ e. (((ap (λ f. f.id) e, ap (λ f. f.remote) e), ap (λ f. f.len) e), ap (λ f. f.bytes) e))
    (Decides-and _ _ (Decides-and _ _ (Decides-and _ _ ids remotes) lens) bytes)

pub frames_decide :
    (xs ys : List FrameData) →
    (pointwise same_frame xs ys ≡ true → xs ≡ ys) × (xs ≡ ys → pointwise same_frame xs ys ≡ true)
frames_decide = pointwise_decides frame_decides

-- the fields of two states of a CAN controller, compared one after another
abbrev pub same_can : CanState → CanState → Bool
same_can a b =
    nat_eq a.control b.control
    && (nat_eq a.code b.code
    && (nat_eq a.mask b.mask
    && (nat_eq a.timing0 b.timing0
    && (nat_eq a.timing1 b.timing1
    && (nat_eq a.output b.output
    && (nat_eq a.divider b.divider
    && (pointwise nat_eq a.transmit b.transmit
    && (pointwise same_frame a.received b.received
    && (beq a.dos b.dos && (beq a.ri b.ri && (beq a.ti b.ti && beq a.doi b.doi)))))))))))

-- they are all equal exactly where the states are one
pub can_decides : (a b : CanState) → Decides (same_can a b) (a ≡ b)
can_decides a b =
    Decides-like _
    (λ e. λ i. record {
      control = e.0 i;
      code = e.1.0 i;
      mask = e.1.1.0 i;
      timing0 = e.1.1.1.0 i;
      timing1 = e.1.1.1.1.0 i;
      output = e.1.1.1.1.1.0 i;
      divider = e.1.1.1.1.1.1.0 i;
      transmit = e.1.1.1.1.1.1.1.0 i;
      received = e.1.1.1.1.1.1.1.1.0 i;
      dos = e.1.1.1.1.1.1.1.1.1.0 i;
      ri = e.1.1.1.1.1.1.1.1.1.1.0 i;
      ti = e.1.1.1.1.1.1.1.1.1.1.1.0 i;
      doi = e.1.1.1.1.1.1.1.1.1.1.1.1 i;
    })
    (λ e. rw e (refl, (refl, (refl, (refl, (refl, (refl, (refl, (refl, (refl, (refl, (refl, (refl, refl)))))))))))))
    (Decides-and _ _ (Decides-eqb a.control b.control)
    (Decides-and _ _ (Decides-eqb a.code b.code)
    (Decides-and _ _ (Decides-eqb a.mask b.mask)
    (Decides-and _ _ (Decides-eqb a.timing0 b.timing0)
    (Decides-and _ _ (Decides-eqb a.timing1 b.timing1)
    (Decides-and _ _ (Decides-eqb a.output b.output)
    (Decides-and _ _ (Decides-eqb a.divider b.divider)
    (Decides-and _ _ (bytes_decides a.transmit b.transmit)
    (Decides-and _ _ (frames_decide a.received b.received)
    (Decides-and _ _ (bools_decide a.dos b.dos)
    (Decides-and _ _ (bools_decide a.ri b.ri)
    (Decides-and _ _ (bools_decide a.ti b.ti) (bools_decide a.doi b.doi)))))))))))))

-- two controllers in one state
pub one_can : (a b : CanState) → DevState.Can a ≡ DevState.Can b → a ≡ b
one_can a b is = cc
