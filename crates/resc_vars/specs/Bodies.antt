-- The bodies that a script opens: its own, files that it includes, and macros.
use Rattle.std.specs.Prelude.{◌≡◌, ℕ, nat_eq, nat_lt, if◌then◌else◌, false, List, [], ◌∷◌, length, Option, Some}
use Rattle.std.specs.Prelude.{None}
use Rattle.std.specs.Prelude.{Result, Ok, Err}
use Rattle.std.specs.Cmp.Lexicographic.{pointwise}
use Rattle.std.specs.Map.{lookup}
use Rattle.std.specs.Str.Lines.{lines}
use Rattle.lab_num.specs.Depth.{depth_limit}
use Rattle.resc_vars.specs.declared.item.SourceLines.{SourceLines}
use Rattle.resc_vars.specs.declared.answer.FlowFault.{FlowFault}
use Rattle.resc_vars.specs.declared.answer.FlowFault.TheVariants as fault
use Rattle.resc_vars.specs.declared.cause.ScriptCause.{ScriptCause}
use Rattle.resc_vars.specs.declared.cause.ScriptCause.TheVariants.{Depth, Variable}
use Rattle.resc_vars.specs.Items.{items}
use Rattle.resc_vars.specs.Numbered.{numbered}
use Rattle.resc_vars.specs.Script.{State, Open}

-- a file with this text
abbrev pub source_of : List ℕ → List ℕ → SourceLines
source_of file text = record { file = file; lines = numbered 1 (lines text) }

abbrev pub opened : SourceLines → Open
opened source = record { file = source.file; items = items 0 source.lines }

-- a script before its first line
abbrev pub begun : SourceLines → State
begun source =
    record {
      ended = false;
      current = opened source;
      outer = [];
      kept = record { variables = []; macros = []; taken = 0 };
    }

-- a body opened within the others, unless there are too many
abbrev pub enter : State → SourceLines → Result State ScriptCause
enter s source =
    if nat_lt (length s.outer) depth_limit
    then Ok (record s { current = opened source; outer = s.current ∷ s.outer })
    else Err Depth

-- the body of a macro opened, if there is one of this name
abbrev pub run_of : State → List ℕ → Result State ScriptCause
run_of s name = enter_macro (lookup (pointwise nat_eq name) s.kept.macros)
  where
    enter_macro : Option SourceLines → Result State ScriptCause
    enter_macro None = Err Variable
    enter_macro (Some source) = enter s source

-- what a call leaves: the state said, or the state before
abbrev pub Leaves : Result (Unit {0}) FlowFault → State → State → Result State ScriptCause → Type 0
Leaves (Ok done) before after said = said ≡ Ok after
Leaves (Err fault.Depth) before after said = (said ≡ Err Depth) × (after ≡ before)
Leaves (Err fault.Variable) before after said = (said ≡ Err Variable) × (after ≡ before)
Leaves (Err fault.Memory) before after said = after ≡ before
