-- A monitor between two commands.
use Rattle.std.specs.Prelude.{ℕ, Bool, List, [], Option, None}
use Rattle.lab_state.specs.Lab.{Lab}
use Rattle.log_text.specs.declared.line.OpenLine.{OpenLine}
use Rattle.resc_vars.specs.Bodies.{begun, source_of}
use Rattle.resc_vars.specs.Script as script
use Rattle.monitor.specs.declared.setting.Setting.{Setting}

-- the script with its open bodies, variables and macros; the laboratory; the number of the selected board; the open
-- lines of the log; the microsecond to which `start` runs; and whether each run has length 0
pub record State : Type 0 where
  pub flow : script.State
  pub lab : Lab
  pub selected : Option ℕ
  pub lines : List OpenLine
  pub until : ℕ
  pub dry : Bool

-- what a script is without its laboratory
pub record BodiesSeen : Type 0 where
  pub flow : script.State
  pub until : ℕ
  pub dry : Bool

-- a script without its laboratory, and by how many workers the boards of one are run
pub record Parted : Type 0 where
  pub script : BodiesSeen
  pub workers : ℕ

abbrev pub bodies_of : State → BodiesSeen
bodies_of s = record { flow = s.flow; until = s.until; dry = s.dry }

-- a script that goes on with a laboratory and its open lines, and with no board selected
abbrev pub joined : BodiesSeen → Lab → List OpenLine → State
joined bodies lab lines = record {
  flow = bodies.flow;
  lab = lab;
  selected = None;
  lines = lines;
  until = bodies.until;
  dry = bodies.dry;
}

-- where a line stands: its file, and its number from 1 on
pub record LinePlace : Type 0 where
  pub file : List ℕ
  pub number : ℕ

-- a laboratory in which nothing was made
abbrev pub empty_lab : Lab
empty_lab = record { boards = []; hubs = []; pending = []; now = 0; quantum = 100 }

-- a monitor before the first line of a script
abbrev pub started : List ℕ → List ℕ → Setting → State
started file text setting = record {
  flow = begun (source_of file text);
  lab = empty_lab;
  selected = None;
  lines = [];
  until = setting.until.0;
  dry = setting.dry;
}
