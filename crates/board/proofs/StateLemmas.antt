-- A board and its state.
use Rattle.std.proofs.Common.{◌≡◌, ◌∙◌, List, [], ◌∷◌, length, map, All}
use Rattle.std.proofs.Common.{refl, sym, ap, arith}
use Rattle.std.specs.Prelude.{option_map}
use Rattle.std.specs.List.{range_with_len}
use Rattle.std.proofs.lemmas.Bool.Decides.{nat_tests}
use Rattle.std.proofs.lemmas.List.{length-map}
use Rattle.std.proofs.lemmas.List.Elements.{All-map}
use Rattle.std.proofs.lemmas.List.FromFn.{length-range_with_len}
use Rattle.dev_core.specs.Device.{kind_of, IsValid as IsValidState}
use Rattle.rv_hart.specs.declared.state.HartState.{HartState}
use Rattle.rv_hart.specs.Core.{Core}
use Rattle.rv_hart.specs.HartState.{core_of, state_of, IsHartState}
use Rattle.sys_bus.specs.declared.plan.BoardPlan.{BoardPlan}
use Rattle.board_space.specs.declared.state.BoardState.{BoardState}
use Rattle.board.specs.BoardState.{board_state, brought_to}
use Rattle.board.specs.Valid.{IsBoard}
use Rattle.board_space.specs.Valid.{IsStateFor}
use Rattle.board.specs.View.{View}
use Rattle.board_space.specs.Fit.{IsFit, IsStateOf}
use Rattle.board.specs.Inner.Holds.{Holds}
use Rattle.board_space.specs.Parts.{MayBeShown}
use Rattle.board_space.proofs.StateLemmas.{timer_back, controller_back, devices_back, timer_there, controller_there}
use Rattle.board_space.proofs.StateLemmas.{devices_there, flags_there, flags_count, timer_kept, controller_kept}
use Rattle.board_space.proofs.StateLemmas.{device_kinds, clint_fits, plic_fits, shown_fits}

-- ---- a board that is brought to the state in which it is

cores_back : (cores : List Core) → map core_of (map state_of cores) ≡ cores
cores_back [] = refl
cores_back (core ∷ cores) = ap (λ rest. core ∷ rest) (cores_back cores)

pub brought_back : (v : View) → brought_to v (board_state v) ≡ v
brought_back v =
    rw (
      cores_back v.cores,
      timer_back v.space.timer,
      controller_back v.space.controller,
      devices_back v.space.devices,
    ) refl

-- ---- the state of a board that was brought to one

pub states_there : (harts : List HartState) → map state_of (map core_of harts) ≡ harts
states_there [] = refl
states_there (hart ∷ harts) = ap (λ rest. hart ∷ rest) (states_there harts)

pub state_there : (v : View) (s : BoardState) → IsStateFor v.space.plan s → IsBoard v → board_state (brought_to v s) ≡ s
state_there v s fits board =
    let flags = flags_count v.space.plan s fits in
    rw (
      states_there s.harts,
      timer_there v.space.timer s.clint (rw board.timer fits.clint),
      controller_there v.space.controller s.plic (rw board.controller fits.plic),
      devices_there s.devices s.shown flags,
      flags_there s.devices s.shown flags,
    ) refl

pub board_there : (v : View) (s : BoardState) → IsStateFor v.space.plan s → IsBoard v → IsBoard (brought_to v s)
board_there v s fits board = record {
  plan = board.plan;
  sizes = board.sizes;
  timer = timer_kept v.space.timer s.clint ∙ board.timer;
  controller = controller_kept v.space.controller s.plic ∙ board.controller;
  state = rw (state_there v s fits board) fits;
}

-- ---- what a board keeps that was brought to a state

hart_numbers :
    (harts : List HartState) → map (λ core. core.number) (map core_of harts) ≡ map (λ hart. hart.number) harts
hart_numbers [] = refl
hart_numbers (hart ∷ harts) = ap (λ rest. hart.number ∷ rest) (hart_numbers harts)

pub hart_count : (plan : BoardPlan) (s : BoardState) → IsStateFor plan s → length s.harts ≡ length plan.cpus
hart_count plan s fits =
    sym (length-map s.harts (λ (hart : HartState). hart.number))
    ∙ ap length fits.numbers
    ∙ length-range_with_len 0 (length plan.cpus)

pub holds_brought : (v : View) (s : BoardState) → IsStateFor v.space.plan s → Holds (brought_to v s)
holds_brought v s fits =
    let plan = v.space.plan in
    let count : length (map core_of s.harts) ≡ length plan.cpus =
    length-map s.harts core_of ∙ hart_count plan s fits in
    record {
      least = grind (arith, nat_tests, fits.speed);
      most = grind (arith, nat_tests, fits.speed);
      shared = rw count (grind (arith, nat_tests, fits.speed));
      harts = count;
      letters = All-map (λ core. core.letters ≡ plan.letters) core_of s.harts fits.letters;
      numbers = hart_numbers s.harts ∙ fits.numbers ∙ ap (range_with_len 0) (sym count);
      next = rw count fits.next;
      watch = fits.watch ∙ sym count;
      reserved = fits.reserved;
    }

-- ---- what a board keeps makes it one that there can be

core_numbers : (cores : List Core) → map (λ hart. hart.number) (map state_of cores) ≡ map (λ core. core.number) cores
core_numbers [] = refl
core_numbers (core ∷ cores) = ap (λ rest. core.number ∷ rest) (core_numbers cores)

pub is_board :
    (v : View) → Holds v → IsFit v.space → All (λ core. IsHartState (state_of core)) v.cores →
    IsStateOf v.space.controller (option_map (λ c. c.state) v.space.controller) →
    All (λ f. MayBeShown (kind_of f.state) f.shown) v.space.devices → IsBoard v
is_board v holds fit sound controller shown =
    let plan = v.space.plan in
    let flags = shown_fits plan.kinds v.space.devices fit.kinds shown in
    record {
      plan = fit.plan;
      sizes = fit.sizes;
      timer = fit.timer;
      controller = fit.controller;
      state =
          record {
            speed = rw (← holds.harts) (grind (arith, nat_tests, holds.least, holds.most, holds.shared));
            next = rw (← holds.harts) holds.next;
            harts = All-map IsHartState state_of v.cores sound;
            letters = All-map (λ hart. hart.letters ≡ plan.letters) state_of v.cores holds.letters;
            numbers = core_numbers v.cores ∙ holds.numbers ∙ ap (range_with_len 0) holds.harts;
            watch = holds.watch ∙ holds.harts;
            reserved = holds.reserved;
            clint = rw (← fit.timer) (clint_fits v.space.timer);
            plic = rw (← fit.controller) (plic_fits v.space.controller controller);
            kinds = device_kinds v.space.devices ∙ fit.kinds;
            states = All-map IsValidState (λ f. f.state) v.space.devices fit.states;
            flags = flags.count;
            shown = flags.kinds;
          };
    }
