-- A hart's state as plain data, and its core.
use Rattle.rv_hart.specs.declared.state.HartState.{HartState}
use Rattle.rv_hart.specs.Core.{Core, IsSound}

-- the core of a state
abbrev pub core_of : HartState → Core
core_of s = record {
  x = s.registers;
  pc = s.pc;
  mstatus_mie = s.on;
  mstatus_mpie = s.before;
  mie = s.mie;
  mtvec = s.mtvec;
  mscratch = s.mscratch;
  mepc = s.mepc;
  mcause = s.mcause;
  mtval = s.mtval;
  mcycle = s.mcycle;
  minstret = s.minstret;
  waiting = s.waiting;
  halted = s.halted;
  letters = s.letters;
  number = s.number;
}

-- the state of a core
abbrev pub state_of : Core → HartState
state_of core = record {
  registers = core.x;
  pc = core.pc;
  on = core.mstatus_mie;
  before = core.mstatus_mpie;
  mie = core.mie;
  mtvec = core.mtvec;
  mscratch = core.mscratch;
  mepc = core.mepc;
  mcause = core.mcause;
  mtval = core.mtval;
  mcycle = core.mcycle;
  minstret = core.minstret;
  waiting = core.waiting;
  halted = core.halted;
  letters = core.letters;
  number = core.number;
}

-- a state that a hart can have
abbrev pub IsHartState : HartState → Type 0
IsHartState s = IsSound (core_of s)
