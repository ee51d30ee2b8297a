-- What a line of a script asks for.
use Rattle.std.specs.Prelude.{◌≡◌, ℕ, Bool, ◌||◌, if◌then◌else◌, List, Result, Ok, Err, codes}
use Rattle.std.specs.Str.{bytes_eq}
use Rattle.resc_read.specs.declared.command.Command.{Command}
use Rattle.resc_read.specs.declared.command.LineCause.{LineCause}
use Rattle.resc_read.specs.declared.command.LineCause.TheVariants.{Unknown, Arguments, Time}
use Rattle.resc_read.specs.declared.command.LineFault.{LineFault}
use Rattle.resc_read.specs.declared.command.LineFault.TheVariants as faults
use Rattle.resc_read.specs.Words.{words}
use Rattle.resc_read.specs.Variable.{is_assignment}
use Rattle.resc_read.specs.Table.{word_at, by_all_rows}

-- a line with these first words sets a variable or begins a macro, and is no command
abbrev pub is_definition : List ℕ → List ℕ → Bool
is_definition first second = bytes_eq first (codes "macro") || is_assignment first second

-- the command of a line's words, or the line's first fault
abbrev pub command_of : List (List ℕ) → Result Command LineCause
command_of words =
    if is_definition (word_at words 0) (word_at words 1) then Err Arguments else by_all_rows words

-- the command of a line, or its first fault
abbrev pub line_of : List ℕ → Result Command LineCause
line_of text = command_of (words text)

-- the fault that is answered for a cause
abbrev pub fault_of : LineCause → LineFault
fault_of Unknown = faults.Unknown
fault_of Arguments = faults.Arguments
fault_of Time = faults.Time

-- the line is read as it is defined, unless memory ran out
abbrev pub IsReadAs : Result Command LineCause → Result Command LineFault → Type 0
IsReadAs meant (Ok command) = meant ≡ Ok command
IsReadAs meant (Err faults.Unknown) = meant ≡ Err Unknown
IsReadAs meant (Err faults.Arguments) = meant ≡ Err Arguments
IsReadAs meant (Err faults.Time) = meant ≡ Err Time
IsReadAs meant (Err faults.Memory) = Unit {0}
