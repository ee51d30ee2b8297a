-- What contracts see of an output in memory, and what a write changes of it.
use Rattle.std.specs.Prelude.{◌≡◌, ℕ, List, ◌++◌, take, min}
use Rattle.lab_io.specs.Known.{counted}
use Rattle.lab_io.specs.Sink.{taken, write_faults}
use Rattle.lab_io.specs.declared.sink.Wrote.{Wrote}
use Rattle.lab_io.specs.declared.sink.Wrote.TheVariants.{Took, Failed, Memory}

-- the bytes, how many of them one write takes at most, the numbers of the writes that are to fail,
-- how many writes there have been, and how many of them have failed
pub record SinkSeen : Type 0 where
  pub bytes : List ℕ
  pub most : ℕ
  pub failing : List ℕ
  pub calls : ℕ
  pub faults : ℕ

-- a write that takes bytes takes as many as it may, of so many
abbrev pub TakesMost : ℕ → Wrote → ℕ → Type 0
TakesMost most (Took count) size = count ≡ min most size
TakesMost most Failed size = Unit {0}
TakesMost most Memory size = Unit {0}

-- the output after a write of a piece has answered
abbrev pub after_write : SinkSeen → List ℕ → Wrote → SinkSeen
after_write sink piece answer = record sink {
  bytes = sink.bytes ++ take (taken answer) piece;
  calls = counted sink.calls;
  faults = write_faults answer sink.faults;
}
