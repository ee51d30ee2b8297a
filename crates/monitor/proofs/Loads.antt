-- What comes of a file that a command loads onto a board.
use Rattle.std.proofs.Common.{◌≡◌, ℕ, ◌<◌, ◌≤◌, nat_lt, true, false, List, length}
use Rattle.std.proofs.Common.{Option, None, Some, Result, Ok, Err, Vec, refl, ap, arith}
use Rattle.std.specs.Prelude.{IsSomeAnd}
use Rattle.std.specs.FinMap.{get}
use Rattle.std.specs.Global.{Global}
use Rattle.std.proofs.lemmas.Bool.Decides.{nat_tests}
use Rattle.elf_load.specs.declared.image.Image.{Image}
use Rattle.lab_io.specs.declared.whole.ReadFault.{ReadFault}
use Rattle.lab_io.specs.declared.whole.ReadFault.TheVariants as read_fault
use Rattle.lab_io.specs.Asked.{AskedNames}
use Rattle.lab_io.specs.Held.{Held}
use Rattle.lab_io.specs.Known.{grown}
use Rattle.lab_io.specs.Whole.{IsFileRead}
use Rattle.lab_io.proofs.Asking.{asks_one}
use Rattle.resc_vars.specs.declared.cause.ScriptCause.TheVariants.{Size}
use Rattle.monitor.specs.declared.fault.Cause.{Cause}
use Rattle.monitor.specs.declared.stop.Stop.{Stop}
use Rattle.monitor.specs.declared.stop.Stop.TheVariants.{Store, Quit, Line, File, Content, Unread, Memory}
use Rattle.monitor.specs.declared.load.Load.{Load}
use Rattle.monitor.specs.declared.load.Load.TheVariants as load
use Rattle.monitor.specs.Answer.{Answer, loads, refused, with_file}
use Rattle.monitor.specs.Images.{load_read}
use Rattle.monitor.specs.Inner.Ruling.{IsBoard, IsCarried, IsImage, IsTold, Leaves, image_by, loaded_by, read_stop}
use Rattle.monitor.specs.Memory.{write_bytes}
use Rattle.monitor.specs.Selected.{Equipped, equipped}
use Rattle.monitor.specs.State.{State, LinePlace}
use Rattle.monitor.specs.Step.{Running}
use Rattle.monitor.proofs.OpenLemmas.{HasOpen, IsKeptBy, bytes_written, image_read, kept_answer}

too_large :
    (place : LinePlace) (content : Option (List ℕ)) (use_ : List ℕ → Answer) →
    IsSomeAnd content (λ bytes. 16777216 < length bytes) → with_file place content use_ ≡ refused place Size
too_large place None use_ is = absurd is
too_large place (Some bytes) use_ is =
    let over : nat_lt 16777216 (length bytes) ≡ true = grind (arith, nat_tests, is) in rw over refl

fits :
    (place : LinePlace) (bytes : List ℕ) (use_ : List ℕ → Answer) → length bytes ≤ 16777216 →
    with_file place (Some bytes) use_ ≡ use_ bytes
fits place bytes use_ few =
    let over : nat_lt 16777216 (length bytes) ≡ false = grind (arith, nat_tests, few) in rw over refl

pub read_unread : (fault : ReadFault) → read_stop fault ≡ Unread → fault ≡ read_fault.Unread
read_unread read_fault.Unread is = refl
read_unread read_fault.TooLarge is = cc is
read_unread read_fault.Memory is = cc is

module _ (held : Held) (s : State) (place : LinePlace) (path : List ℕ) (use_ : Equipped → List ℕ → Answer) (b : ℕ)
    (is : IsBoard s (equipped s) b) (log log' : AskedNames) where
  -- the file is not read
  pub load_stops :
      (fault : ReadFault) (after : State) → IsFileRead (get held path) path (Err fault) log log' →
      IsCarried (loads held place path (equipped s) use_) place (Err (read_stop fault)) after log log'
  load_stops read_fault.Unread after read = rw is.on (asks_one path log log' read)
  load_stops read_fault.TooLarge after read =
      rw is.on (too_large place (get held path) (use_ (record { number = b; view = is.view })) read.0, read.1)
  load_stops read_fault.Memory after read = rw is.on read

  -- these are its bytes
  pub load_goes :
      (bytes : Vec ℕ Global) → IsFileRead (get held path) path (Ok bytes) log log' → length bytes.items ≤ 16777216 →
      ((loads held place path (equipped s) use_).answer ≡ use_ (record { number = b; view = is.view }) bytes.items)
      × (log' ≡ grown log (loads held place path (equipped s) use_).names)
  load_goes bytes read few =
      rw (is.on, read.0) (fits place bytes.items (use_ (record { number = b; view = is.view })) few, read.1)

-- the bytes are no image
pub image_told :
    (s after : State) (place : LinePlace) (on : Equipped) (meant : Result Image Cause) (stop : Stop) →
    IsImage meant (Err stop) → IsTold place (load_read s place on meant) (Err stop) after
image_told s after place on meant (Store asked) is = absurd is
image_told s after place on meant Quit is = absurd is
image_told s after place on meant (Line cause) is = absurd is
image_told s after place on meant (File fault) is = absurd is
image_told s after place on meant (Content cause) is = ap (load_read s place on) is
image_told s after place on meant Unread is = absurd is
image_told s after place on meant Memory is = tt

pub image_leaves :
    (meant : Result Image Cause) (stop : Stop) (old : Running) → IsImage meant (Err stop) → Leaves (Err stop) old old
image_leaves meant (Store asked) old is = refl
image_leaves meant Quit old is = refl
image_leaves meant (Line cause) old is = refl
image_leaves meant (File fault) old is = refl
image_leaves meant (Content cause) old is = refl
image_leaves meant Unread old is = refl
image_leaves meant Memory old is = refl

-- what is loaded keeps the lines that are open
pub load_keeps :
    (s : State) → HasOpen s → (place : LinePlace) (kind : Load) (on : Equipped) (bytes : List ℕ) →
    IsKeptBy (loaded_by kind s place on bytes)
load_keeps s open_ place (load.Image format) on bytes = image_read s open_ place on (image_by format bytes)
load_keeps s open_ place (load.Bytes at) on bytes =
    kept_answer place (write_bytes s on at bytes) (bytes_written s open_ on at bytes)
