-- What the space of a board keeps, and where an access lies in it.
use Rattle.std.specs.Prelude.{◌≡◌, ℕ, ◌+◌, ◌%◌, ◌≤◌, ◌<◌, length, map, All, Option, None, Some, option_map}
use Rattle.dev_core.specs.Device.{kind_of, IsValid as IsValidState}
use Rattle.page_ram.specs.Access.{IsInOnePage}
use Rattle.plic.specs.declared.state.PlicState.{PlicState}
use Rattle.plic.specs.State.{Controller, IsPlicState}
use Rattle.sys_bus.specs.declared.near.MemoryPlace.{MemoryPlace}
use Rattle.sys_bus.specs.declared.region.Target.{Target}
use Rattle.sys_bus.specs.declared.region.Target.TheVariants.{Ram, Clint, Plic, Dev, Nothing}
use Rattle.sys_bus.specs.Plan.{IsValid}
use Rattle.sys_bus.specs.Region.{IsWidth}
use Rattle.board_space.specs.New.{size_of}
use Rattle.board_space.specs.Space.{Space, memory_at, target_at}

-- memories, timer, interrupt controller and devices are those of the plan
pub record IsFit (s : Space) : Type 0 where
  pub plan : IsValid s.plan
  pub sizes : map length s.memories ≡ s.plan.memories
  pub timer : option_map (λ c. c.frequency) s.timer ≡ s.plan.frequency
  pub controller : option_map size_of s.controller ≡ s.plan.plic
  pub kinds : map (λ f. kind_of f.state) s.devices ≡ s.plan.kinds
  pub states : All (λ f. IsValidState f.state) s.devices

-- so many bytes of a target are all there
abbrev pub LiesIn : Space → ℕ → Target → Type 0
LiesIn s width (Ram part at) = (part < length s.memories) × (at + width ≤ length (memory_at s part))
LiesIn s width (Dev dev at) = dev < length s.devices
LiesIn s width (Clint at) = Unit {0}
LiesIn s width (Plic at) = Unit {0}
LiesIn s width Nothing = Unit {0}

-- and those of a memory lie in one page
abbrev pub IsInPage : ℕ → Target → Type 0
IsInPage width (Ram part at) = IsInOnePage at width
IsInPage width (Dev dev at) = Unit {0}
IsInPage width (Clint at) = Unit {0}
IsInPage width (Plic at) = Unit {0}
IsInPage width Nothing = Unit {0}

-- an access that a processor makes: of 1, 2 or 4 bytes, at an address that is divisible by this width
abbrev pub IsAccess : ℕ → ℕ → Type 0
IsAccess at width = IsWidth width × (at % width ≡ 0)

-- each access at an address belongs to this place of a memory
pub record HoldsAccess (s : Space) (at : ℕ) (place : MemoryPlace) (width : ℕ) : Type 0 where
  pub target : target_at s at width ≡ Ram place.part place.at
  pub part : place.part < length s.memories
  pub lies : place.at + width ≤ length (memory_at s place.part)
  pub page : IsInOnePage place.at width

abbrev pub HoldsAccesses : Space → ℕ → MemoryPlace → Type 0
HoldsAccesses s at place = (width : ℕ) → IsAccess at width → HoldsAccess s at place width

-- a state that an interrupt controller can have, where there is one
abbrev pub IsStateOf : Option Controller → Option PlicState → Type 0
IsStateOf (Some c) (Some state) = IsPlicState c.sources c.contexts state
IsStateOf (Some c) None = Unit {0}
IsStateOf None state = Unit {0}
