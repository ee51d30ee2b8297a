-- What holds where a script goes on.
use Rattle.monitor.specs.Answer.{Answer, Goes, Saves, Loads, Ends, Faults, Misses}
use Rattle.monitor.specs.State.{State}

-- This holds of the state in which a script goes on, if it does. Of `Load` it is the state in which it is met: the
-- laboratory that is brought takes the place of its own.
abbrev pub IfOn : Answer → (State → Type 0) → Type 0
IfOn (Goes text next) P = P next
IfOn (Saves name place next) P = P next
IfOn (Loads name place next) P = P next
IfOn Ends P = Unit {0}
IfOn (Faults fault) P = Unit {0}
IfOn Misses P = Unit {0}
