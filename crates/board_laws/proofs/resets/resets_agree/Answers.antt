use Rattle.std.proofs.Common.{refl}
use Rattle.board_laws.proofs.ResetLemmas.{same_resets, same_timers, same_controllers, same_cores}
use Rattle.board_laws.proofs.resets.resets_agree.Goals as goal

pub returns : goal.returns
returns c = λ v w same.
    rw (
      same.numbers,
      same_cores _ _ same.halted same.letters same.own_numbers,
      same.harts,
      same.plan,
      same.memories,
      same_timers _ _ same.timer,
      same_controllers _ _ same.controller,
      same_resets _ _ same.kinds same.shown,
    ) refl
