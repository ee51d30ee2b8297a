use Rattle.std.proofs.Common.{ap, length, arith}
use Rattle.sys_bus.proofs.KindLemmas.{few_devices}
use Rattle.sys_bus.proofs.plan.BoardPlan.is_whole.Goals as goal

pub overflow_cast-devices : goal.overflow_cast-devices
overflow_cast-devices c =
    omega (arith, few_devices c.args.self.now.kinds c.requires.few_devices, ap length c.items-2.ensures)
