-- The commands of one word, of which the text is kept: what each reads, and which command it makes.
use Rattle.std.specs.Prelude.{ℕ, List, Result}
use Rattle.resc_read.specs.declared.command.Command.{Command}
use Rattle.resc_read.specs.declared.command.Command.TheVariants as commands
use Rattle.resc_read.specs.declared.command.LineCause.{LineCause}
use Rattle.resc_read.specs.declared.one_text.OneText.{OneText}
use Rattle.resc_read.specs.declared.one_text.OneText.TheVariants as rows
use Rattle.resc_read.specs.Arguments.{entry, name, path, variable}

abbrev pub sort_of : OneText → List ℕ → Result (List ℕ) LineCause
sort_of rows.Select = name
sort_of rows.LoadPlatform = path
sort_of rows.LoadElf = path
sort_of rows.LoadHex = path
sort_of rows.Show = entry
sort_of rows.Include = path
sort_of rows.RunMacro = variable
sort_of rows.Save = path
sort_of rows.Load = path

abbrev pub command_of : OneText → List ℕ → Command
command_of rows.Select = commands.Select
command_of rows.LoadPlatform = commands.LoadPlatform
command_of rows.LoadElf = commands.LoadElf
command_of rows.LoadHex = commands.LoadHex
command_of rows.Show = commands.Show
command_of rows.Include = commands.Include
command_of rows.RunMacro = commands.RunMacro
command_of rows.Save = commands.Save
command_of rows.Load = commands.Load
