-- The codes and texts of the causes for which a script is refused.
use Rattle.std.specs.Prelude.{ℕ, List, codes}
use Rattle.resc_vars.specs.declared.cause.ScriptCause.{ScriptCause}
use Rattle.resc_vars.specs.declared.cause.ScriptCause.TheVariants.{Unknown, Arguments, Variable, NoBoard, Board, Taken}
use Rattle.resc_vars.specs.declared.cause.ScriptCause.TheVariants.{Name, Kind, Connected, Time, Depth, Commands, Boards}
use Rattle.resc_vars.specs.declared.cause.ScriptCause.TheVariants.{LabTime, Platform, Address, Unclosed, Utf8, Size}
use Rattle.resc_vars.specs.declared.cause.ScriptCause.TheVariants.{Snapshot, Occupied}

-- the code and the text of a cause
abbrev pub script_cause_text : ScriptCause → List ℕ
script_cause_text Unknown = codes "S1 unknown command"
script_cause_text Arguments = codes "S2 arguments"
script_cause_text Variable = codes "S3 variable"
script_cause_text NoBoard = codes "S4 no board"
script_cause_text Board = codes "S5 board"
script_cause_text Taken = codes "S6 taken"
script_cause_text Name = codes "S7 name"
script_cause_text Kind = codes "S8 kind"
script_cause_text Connected = codes "S9 connected"
script_cause_text Time = codes "S10 time"
script_cause_text Depth = codes "S11 depth"
script_cause_text Commands = codes "S12 commands"
script_cause_text Boards = codes "S13 boards"
script_cause_text LabTime = codes "S14 lab time"
script_cause_text Platform = codes "S15 platform"
script_cause_text Address = codes "S16 address"
script_cause_text Unclosed = codes "S17 unclosed"
script_cause_text Utf8 = codes "S18 not utf-8"
script_cause_text Size = codes "S19 size"
script_cause_text Snapshot = codes "S20 snapshot"
script_cause_text Occupied = codes "S21 occupied"
