-- What a reset keeps of a board.
use Rattle.std.specs.Prelude.{◌≡◌, length, map, option_map}
use Rattle.dev_core.specs.Device.{kind_of}
use Rattle.board.specs.New.{size_of}
use Rattle.board.specs.View.{View}

-- two boards that differ in nothing but in what their processors, timers, interrupt controllers and devices have come
-- to
pub record IsSameKept (v w : View) : Type 0 where
  pub numbers : v.numbers ≡ w.numbers
  pub halted : map (λ core. core.halted) v.cores ≡ map (λ core. core.halted) w.cores
  pub letters : map (λ core. core.letters) v.cores ≡ map (λ core. core.letters) w.cores
  pub own_numbers : map (λ core. core.number) v.cores ≡ map (λ core. core.number) w.cores
  pub harts : length v.watch ≡ length w.watch
  pub plan : v.space.plan ≡ w.space.plan
  pub memories : v.space.memories ≡ w.space.memories
  pub timer : option_map (λ c. c.frequency) v.space.timer ≡ option_map (λ c. c.frequency) w.space.timer
  pub controller : option_map size_of v.space.controller ≡ option_map size_of w.space.controller
  pub kinds : map (λ f. kind_of f.state) v.space.devices ≡ map (λ f. kind_of f.state) w.space.devices
  pub shown : map (λ f. f.shown) v.space.devices ≡ map (λ f. f.shown) w.space.devices
