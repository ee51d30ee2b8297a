-- What the read of a file says of what it is.
use Rattle.std.proofs.Common.{◌≡◌, ◌∷◌, ℕ, List, [], ap}
use Rattle.lab_io.specs.Known.{grown}
use Rattle.lab_io.specs.Asked.{AskedNames}
use Rattle.lab_io.proofs.Asking.{asks_all}
use Rattle.repl_files.specs.declared.fault.FileCause.{FileCause}
use Rattle.repl_files.specs.declared.fault.LoadFault.{LoadFault}
use Rattle.repl_files.specs.declared.fault.LoadFault.TheVariants.{At, TooLarge, Unread, Memory}
use Rattle.repl_files.specs.declared.content.Opened.{Opened}
use Rattle.repl_files.specs.declared.content.Opened.TheVariants as opened_by
use Rattle.repl_files.specs.Content.{Content, Faulty}
use Rattle.repl_files.specs.Inner.Course.{IsFaultAt, IsFaulty, IsContent, IsOpened}

-- a fault of the file was told, or memory ran out
pub told_faulty : (content : Content) (name : List ℕ) (line : ℕ) (cause : FileCause) (told : LoadFault) →
    content ≡ Faulty line cause → IsFaultAt (record { file = name; line = line; cause = cause }) told →
    IsFaulty content name told
told_faulty content name line cause (At fault) is so = (rw so is, ap (λ fault. fault.file) so)
told_faulty content name line cause TooLarge is so = absurd so
told_faulty content name line cause Unread is so = absurd so
told_faulty content name line cause Memory is so = tt

-- a file was read, and is what was told of it
pub opened_content : (content : Content) (name : List ℕ) (opened : Opened) (log log' : AskedNames) →
    log' ≡ grown log (name ∷ []) → IsContent content name opened → IsOpened content name opened log log'
opened_content content name (opened_by.Entries entries) log log' asked is = (is, asked)
opened_content content name opened_by.TooLarge log log' asked is = absurd is
opened_content content name (opened_by.Stopped (At fault)) log log' asked is = (is.0, is.1, asked)
opened_content content name (opened_by.Stopped TooLarge) log log' asked is = absurd is
opened_content content name (opened_by.Stopped Unread) log log' asked is = absurd is
opened_content content name (opened_by.Stopped Memory) log log' asked is = asks_all (name ∷ []) log log' asked
