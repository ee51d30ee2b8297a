-- What an access of a device answers and leaves.
use Rattle.std.proofs.Common.{◌≡◌, ℕ, ◌<◌, List, Option, length, ap, ◌∙◌}
use Rattle.std.specs.Prelude.{slice_index_or}
use Rattle.std.proofs.lemmas.List.{get_or_default}
use Rattle.dev_core.specs.declared.state.DevState.{DevState}
use Rattle.board_space.specs.Space.{Space, BoardDevice, device_at, with_device, with_state, register_of}

device-is :
    (s : Space) (dev from : ℕ) (d f : BoardDevice) → dev < length s.devices → from ≡ dev →
    f ≡ slice_index_or s.devices from d → f ≡ device_at s dev
device-is s dev from d f there from_is is =
    is ∙ ap (λ i. slice_index_or s.devices i d) from_is ∙ get_or_default s.devices dev d _ there

pub answered :
    {A : Type 0} (s : Space) (dev at from : ℕ) (register : Option ℕ) (devices : List BoardDevice) (d f : BoardDevice)
    (answer : DevState → Option ℕ → A) (result : A) → dev < length s.devices → from ≡ dev → devices ≡ s.devices →
    f ≡ slice_index_or devices from d → register ≡ register_of s dev at → result ≡ answer f.state register →
    result ≡ answer (device_at s dev).state (register_of s dev at)
answered s dev at from register devices d f answer result there from_is devices_are is register_is result_is =
    let found : f ≡ slice_index_or s.devices from d = is ∙ ap (λ fs. slice_index_or fs from d) devices_are in
    result_is
    ∙ ap (answer f.state) register_is
    ∙ ap {A = BoardDevice} (λ f. answer f.state (register_of s dev at)) (device-is s dev from d f there from_is found)

pub left :
    (s : Space) (dev at from : ℕ) (register : Option ℕ) (d f new : BoardDevice)
    (after : DevState → Option ℕ → DevState) → dev < length s.devices → from ≡ dev →
    f ≡ slice_index_or s.devices from d → register ≡ register_of s dev at →
    new ≡ record f { state = after f.state register } →
    with_device s from new ≡ with_state s dev (after (device_at s dev).state (register_of s dev at))
left s dev at from register d f new after there from_is is register_is new_is =
    ap (λ i. with_device s i new) from_is
    ∙ ap (with_device s dev) new_is
    ∙ ap (λ r. with_device s dev (record f { state = after f.state r })) register_is
    ∙ ap {A = BoardDevice} (λ f. with_device s dev (record f { state = after f.state (register_of s dev at) }))
    (device-is s dev from d f there from_is is)
