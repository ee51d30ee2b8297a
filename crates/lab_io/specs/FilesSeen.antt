-- What contracts see of files in memory, and what a read changes of it.
use Rattle.std.specs.Prelude.{ℕ, ◌⊎◌, List, ◌++◌, Contains, IsNone, string_bytes, refl}
use Rattle.std.specs.Coded.{Coded, code_by, coded×, coded_list, coded_ℕ}
use Rattle.std.specs.FinMap.{get, code}
use Rattle.lab_io.specs.Known.{counted}
use Rattle.lab_io.specs.Held.{Held, asks, read_faults}
use Rattle.lab_io.specs.declared.files.ReadAnswer.{ReadAnswer}
use Rattle.lab_io.specs.declared.mem_files.Stored.{Stored}

-- what the names hold, the names asked for, the numbers of the reads that are to fail,
-- how many reads there have been, and how many of them have failed
pub record FilesSeen : Type 0 where
  pub held : Held
  pub asked : List (List ℕ)
  pub failing : List ℕ
  pub calls : ℕ
  pub faults : ℕ

-- the code by which proofs tell such values apart: the fields as pairs
abbrev pub files_code : Coded FilesSeen
files_code =
    code_by (Held × (List (List ℕ) × (List ℕ × (ℕ × ℕ))))
    (coded× (code (coded_list coded_ℕ) (coded_list coded_ℕ))
    (coded× (coded_list (coded_list coded_ℕ)) (coded× (coded_list coded_ℕ) (coded× coded_ℕ coded_ℕ))))
    (λ files. (files.held, (files.asked, (files.failing, (files.calls, files.faults)))))
    (λ pairs. record {
      held = pairs.0;
      asked = pairs.1.0;
      failing = pairs.1.1.0;
      calls = pairs.1.1.1.0;
      faults = pairs.1.1.1.1;
    })
    (λ _. refl)

-- a stored file as an entry of a map
abbrev pub entry_of : Stored → List ℕ × List ℕ
entry_of stored = (string_bytes stored.name, stored.bytes.items)

-- the read of a name that comes next is to fail: its number is listed, or the name holds nothing
abbrev pub IsToFail : FilesSeen → List ℕ → Type 0
IsToFail files name = Contains files.failing files.calls ⊎ IsNone (get files.held name)

-- the files after a read of a name has answered
abbrev pub after_read : FilesSeen → List ℕ → ReadAnswer → FilesSeen
after_read files name answer = record files {
  asked = files.asked ++ asks answer name;
  calls = counted files.calls;
  faults = read_faults answer files.faults;
}
