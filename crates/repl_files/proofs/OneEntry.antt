-- How one entry goes by its course.
use Rattle.std.proofs.Common.{◌≡◌, ◌∷◌, ◌++◌, ℕ, List, [], Option, None, Some, Result, Ok, Err, OnOk, IfErr}
use Rattle.std.proofs.Common.{sym, refl, subst, append-nil}
use Rattle.repl_read.specs.declared.entry.Entry.{Entry}
use Rattle.repl_files.specs.declared.fault.LoadFault.{LoadFault}
use Rattle.repl_files.specs.declared.fault.LoadFault.TheVariants.{At, TooLarge, Unread, Memory}
use Rattle.repl_files.specs.declared.load.Loaded.{Loaded}
use Rattle.lab_io.specs.Asked.{AskedNames}
use Rattle.repl_files.specs.Loading.{Gives, used_file, one_by, one}
use Rattle.repl_files.specs.Inner.Course.{IsCourse}
use Rattle.lab_io.proofs.Asking.{asks_none}
use Rattle.lab_io.proofs.Grown.{grown-nil}

module _ (gives : Gives) (file : List ℕ) (number count : ℕ) (entry : Entry) where
  -- a `using` head went by the course of its file
  pub one_used : (name : List ℕ) (result : Result (Unit {0}) LoadFault) (old new : Loaded) (log log' : AskedNames) →
      Some name ≡ used_file entry.head →
      IsCourse (gives count (record { file = file; line = entry.line; name = name })) result old new log log' →
      IsCourse (one gives file number count entry) result old new log log'
  one_used name result old new log log' is course =
      subst
      (λ (found : Option (List ℕ)). IsCourse (one_by gives file number count entry found) result old new log log')
      is course

  -- an entry of another head was kept, or memory ran out
  kept_by : (result : Result (Unit {0}) LoadFault) (old new : Loaded) (log : AskedNames) →
      OnOk result (new.entries.items ≡ old.entries.items ++ record entry { file = number } ∷ []) →
      IfErr result (λ fault. fault ≡ Memory) → new.names.items ≡ old.names.items →
      IsCourse (one_by gives file number count entry None) result old new log log
  kept_by (Ok done) old new log kept wanting names = record {
    added = record entry { file = number } ∷ [];
    outcome = refl;
    entries = kept;
    names = rw names (sym (append-nil old.names.items));
    asked = sym (grown-nil log);
  }
  kept_by (Err (At fault)) old new log kept wanting names = absurd (cc)
  kept_by (Err TooLarge) old new log kept wanting names = absurd (cc)
  kept_by (Err Unread) old new log kept wanting names = absurd (cc)
  kept_by (Err Memory) old new log kept wanting names = asks_none [] log

  pub one_kept : (result : Result (Unit {0}) LoadFault) (old new : Loaded) (log : AskedNames) →
      None ≡ used_file entry.head →
      OnOk result (new.entries.items ≡ old.entries.items ++ record entry { file = number } ∷ []) →
      IfErr result (λ fault. fault ≡ Memory) → new.names.items ≡ old.names.items →
      IsCourse (one gives file number count entry) result old new log log
  one_kept result old new log is kept wanting names =
      subst (λ (found : Option (List ℕ)). IsCourse (one_by gives file number count entry found) result old new log log)
      is (kept_by result old new log kept wanting names)
