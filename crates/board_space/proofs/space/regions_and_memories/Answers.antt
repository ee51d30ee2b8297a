use Rattle.sys_bus.proofs.PlanLemmas.{ram_sizes}
use Rattle.board_space.proofs.space.regions_and_memories.Goals as goal

pub memories_of-requires : goal.memories_of-requires
memories_of-requires c = rw c.items-2.ensures (ram_sizes c.args.plan.now c.requires)
