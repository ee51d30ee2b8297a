-- What was not read, and where memory ran out.
use Rattle.std.proofs.Common.{◌≡◌, Result, Err}
use Rattle.repl_files.specs.declared.fault.FileFault.{FileFault}
use Rattle.repl_files.specs.declared.fault.LoadFault.{LoadFault}
use Rattle.repl_files.specs.declared.fault.LoadFault.TheVariants.{Unread, Memory}
use Rattle.lab_io.specs.Asked.{AskedNames}
use Rattle.repl_files.specs.Loaded.{IsStopped}
use Rattle.repl_files.specs.Loading.{Loading}
use Rattle.repl_files.specs.Inner.Course.{IsFaultAt}
use Rattle.lab_io.proofs.Asking.{asks_none}

-- memory ran out before a name was asked for
pub wanting : (loading : Loading) (fault : LoadFault) (log : AskedNames) → fault ≡ Memory →
    IsStopped loading fault log log
wanting loading fault log is = rw is (asks_none loading.names log)

unread_not : (fault : FileFault) (told : LoadFault) → IsFaultAt fault told → told ≡ Unread → ⊥
unread_not fault told so is = rw is at so

-- a fault that was told is no read that failed
pub told_read : (fault : FileFault) (told : LoadFault) (result : Result (Unit {0}) LoadFault) →
    result ≡ Err told → IsFaultAt fault told → result ≡ Err Unread → ⊥
told_read fault told result was so is = let same : told ≡ Unread = cc in unread_not fault told so same
