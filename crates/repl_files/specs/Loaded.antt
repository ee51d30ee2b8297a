-- What a call has answered of a loading.
use Rattle.std.specs.Prelude.{◌≡◌, Result, Ok, Err}
use Rattle.lab_io.specs.Known.{grown}
use Rattle.repl_files.specs.declared.fault.LoadFault.{LoadFault}
use Rattle.repl_files.specs.declared.fault.LoadFault.TheVariants.{At, TooLarge, Unread, Memory}
use Rattle.repl_files.specs.declared.load.Loaded.{Loaded}
use Rattle.lab_io.specs.Asked.{AskedNames, AsksSome, AsksUpTo}
use Rattle.repl_files.specs.Loading.{Joined, Refused, Oversized, Loading}

-- a loading was stopped as it says and has asked for its names, or was cut short
abbrev pub IsStopped : Loading → LoadFault → AskedNames → AskedNames → Type 0
IsStopped loading (At fault) log log' = (loading.outcome ≡ Refused fault) × (log' ≡ grown log loading.names)
IsStopped loading TooLarge log log' = (loading.outcome ≡ Oversized) × (log' ≡ grown log loading.names)
IsStopped loading Unread log log' = AsksUpTo loading.names log log'
IsStopped loading Memory log log' = AsksSome loading.names log log'

-- a loading has come out as it says and has asked for its names, or was cut short
abbrev pub IsLoaded : Loading → Result Loaded LoadFault → AskedNames → AskedNames → Type 0
IsLoaded loading (Ok all) log log' =
    (loading.outcome ≡ Joined all.entries.items) × (all.names.items ≡ loading.names) × (log' ≡ grown log loading.names)
IsLoaded loading (Err fault) log log' = IsStopped loading fault log log'

-- a loading was cut short
abbrev pub IsCut : Result Loaded LoadFault → Type 0
IsCut (Ok all) = ⊥
IsCut (Err (At fault)) = ⊥
IsCut (Err TooLarge) = ⊥
IsCut (Err Unread) = Unit {0}
IsCut (Err Memory) = Unit {0}
