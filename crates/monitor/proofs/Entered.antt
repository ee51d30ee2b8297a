-- What comes of a file that a command enters.
use Rattle.std.proofs.Common.{◌≡◌, ℕ, ◌<◌, nat_lt, true, List, ◌∷◌, [], length, Ok, Err}
use Rattle.std.proofs.Common.{String, string_bytes, refl, sym, ap, subst, arith}
use Rattle.std.specs.FinMap.{get}
use Rattle.std.specs.Global.{Global}
use Rattle.std.proofs.lemmas.Bool.Decides.{nat_tests}
use Rattle.lab_io.specs.declared.whole.TextFault.{TextFault}
use Rattle.lab_io.specs.declared.whole.TextFault.TheVariants as text_fault
use Rattle.lab_io.specs.Asked.{AskedNames}
use Rattle.lab_io.specs.Held.{Held}
use Rattle.lab_io.specs.Known.{grown}
use Rattle.lab_io.specs.Whole.{IsTextRead, file_text}
use Rattle.lab_io.proofs.Asking.{asks_all, asks_one}
use Rattle.lab_num.specs.Depth.{depth_limit}
use Rattle.resc_vars.specs.Bodies.{enter, source_of}
use Rattle.monitor.specs.declared.fault.ScriptFault.{ScriptFault}
use Rattle.monitor.specs.declared.stop.Stop.{Stop}
use Rattle.monitor.specs.declared.stop.Stop.TheVariants.{Store, Quit, Line, File, Content, Unread, Memory}
use Rattle.monitor.specs.Answer.{Did, Faults, answer_at}
use Rattle.monitor.specs.Bodies.{entered, include, include_text}
use Rattle.monitor.specs.State.{State, LinePlace}
use Rattle.monitor.specs.Inner.Ruling.{IsCarried, IsFileStop, IsTextStop}

-- a command that stops at a place of a file, or for want of memory
file_carried :
    (did : Did) (place : LinePlace) (fault : ScriptFault) (stop : Stop) (after : State) (log log' : AskedNames) →
    did.answer ≡ Faults fault → log' ≡ grown log did.names → IsFileStop fault stop →
    IsCarried did place (Err stop) after log log'
file_carried did place fault (Store store) after log log' answer asked is = absurd is
file_carried did place fault Quit after log log' answer asked is = absurd is
file_carried did place fault (Line cause) after log log' answer asked is = absurd is
file_carried did place fault (File told) after log log' answer asked is = (rw is answer, asked)
file_carried did place fault (Content cause) after log log' answer asked is = absurd is
file_carried did place fault Unread after log log' answer asked is = absurd is
file_carried did place fault Memory after log log' answer asked is = asks_all did.names log log' asked

file_unread : (fault : ScriptFault) (stop : Stop) → IsFileStop fault stop → stop ≡ Unread → ⊥
file_unread fault stop is same = rw same at is

pub text_unread :
    (name : List ℕ) (fault : TextFault) (stop : Stop) → IsTextStop name fault stop → stop ≡ Unread →
    fault ≡ text_fault.Unread
text_unread name text_fault.Unread stop is same = refl
text_unread name text_fault.TooLarge stop is same = cc (is, same)
text_unread name (text_fault.NotText line) stop is same = absurd (file_unread _ stop is same)
text_unread name text_fault.Memory stop is same = cc (is, same)

module _ (held : Held) (s : State) (place : LinePlace) (path : List ℕ) (room : length s.flow.outer < 8)
    (log log' : AskedNames) where
  -- fewer than 8 bodies are open
  include_reads :
      include held s place path
      ≡ record { names = path ∷ []; answer = include_text s place path (file_text (get held path)) }
  include_reads =
      let yes : nat_lt (length s.flow.outer) depth_limit ≡ true = grind (arith, nat_tests, room) in rw yes refl

  stops :
      (fault : TextFault) (stop : Stop) (after : State) → IsTextRead (get held path) path (Err fault) log log' →
      IsTextStop path fault stop →
      IsCarried (record { names = path ∷ []; answer = include_text s place path (file_text (get held path)) }) place
      (Err stop) after log log'
  stops text_fault.Unread stop after read is = rw is (asks_one path log log' read)
  stops text_fault.TooLarge stop after read is = rw is (ap (include_text s place path) read.0, read.1)
  stops (text_fault.NotText line) stop after read is =
      let told = include_text s place path (file_text (get held path)) in
      file_carried (record { names = path ∷ []; answer = told }) place _ stop after log log'
      (ap (include_text s place path) read.0) read.1 is
  stops text_fault.Memory stop after read is = rw is read

  -- the text is not read
  pub include_stops :
      (fault : TextFault) (stop : Stop) (after : State) → IsTextRead (get held path) path (Err fault) log log' →
      IsTextStop path fault stop → IsCarried (include held s place path) place (Err stop) after log log'
  include_stops fault stop after read is =
      subst (λ did. IsCarried did place (Err stop) after log log') (sym include_reads) (stops fault stop after read is)

  -- this is its text
  pub include_goes :
      (text : String Global) → IsTextRead (get held path) path (Ok text) log log' →
      ((include held s place path).answer
      ≡ answer_at place (entered s (enter s.flow (source_of path (string_bytes text)))))
      × (log' ≡ grown log (include held s place path).names)
  include_goes text read = rw include_reads (ap (include_text s place path) read.0, read.1)
