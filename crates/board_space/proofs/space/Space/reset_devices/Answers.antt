use Rattle.std.proofs.Common.{◌≡◌, ◌∙◌, ℕ, ◌≤◌, ◌++◌, List, refl, ap, rules, arith, length, map, take, drop}
use Rattle.std.proofs.Math.ListN.{drop_of_length-le}
use Rattle.std.proofs.lemmas.List.{append-nil, take_all, take-append-le}
use Rattle.std.proofs.lemmas.List.Edits.{map_over_more}
use Rattle.board_space.specs.New.{reset_device}
use Rattle.board_space.specs.Space.{Space, BoardDevice}
use Rattle.board_space.proofs.FitLemmas.{fit_reset}
use Rattle.board_space.proofs.space.Space.reset_devices.Goals as goal

-- after the last device all are reset
all-reset :
    (n i : ℕ) (now before inside : List BoardDevice) →
    now ≡ map reset_device (take i before) ++ drop i before → length before ≤ i → before ≡ inside →
    n ≤ length now → length now ≤ n → take n (now ++ drop (length now) inside) ≡ map reset_device inside
all-reset n i now before inside done end is most least =
    let items : now ≡ map reset_device before =
    done ∙ rw (take_all i before end, drop_of_length-le before end, append-nil) refl in
    take-append-le n now (drop (length now) inside) most
    ∙ take_all n now least
    ∙ items
    ∙ ap (map reset_device) is

pub loop-device-preserved : goal.loop-device-preserved
loop-device-preserved g c =
    rw (c.reset.ensures.after, ← c.device-item.is)
    (map_over_more reset_device _ _ _ c.device-item.result (omega arith) c.loop-device.invariant c.device-item.is)

pub invariant_of-self : goal.invariant_of-self
invariant_of-self g c =
    let all = all-reset c.self.inside.devices.len c.loop-device.device-index c.loop-device.device-items
    c.deref_mut-device-items.result.now c.self.inside.devices.items c.loop-device.invariant c.loop-device-test.false
    c.deref_mut-device-items.ensures.value (search rules) (search rules) in
    (c.self.invariant.0, rw all (fit_reset _ c.self.invariant.1), c.self.invariant.2, tt)

pub returns : goal.returns
returns g c =
    let all = all-reset c.self.inside.devices.len c.loop-device.device-index c.loop-device.device-items
    c.deref_mut-device-items.result.now c.self.inside.devices.items c.loop-device.invariant c.loop-device-test.false
    c.deref_mut-device-items.ensures.value (search rules) (search rules) in
    rw all (ap {A = Space} (λ s. record s { devices = map reset_device s.devices }) c.self.view_is)
