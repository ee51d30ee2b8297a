-- What the bytes of a snapshot hold.
use Rattle.std.specs.Prelude.{ℕ, List, [], ◌∷◌, Option, None, Some, if◌then◌else◌, option_and_then}
use Rattle.log_text.specs.declared.line.OpenLine.{OpenLine}
use Rattle.lab_state.specs.Lab.{Lab}
use Rattle.lab_snap.specs.declared.lab.SavedLab.{SavedLab}
use Rattle.lab_snap.specs.Inner.DecidedParts.{valid_decided}
use Rattle.lab_snap.specs.Lab.{lab_form}
use Rattle.lab_snap.specs.Loaded.{loaded}

-- the laboratory that was read, if no byte is left after it and it is one that can go on
abbrev pub accepted : SavedLab × List ℕ → Option (Lab × List OpenLine)
accepted (s, []) = if (valid_decided s).answer then Some (loaded s, s.lines) else None
accepted (s, byte ∷ rest) = None

-- the laboratory and the open lines that the bytes spell, if they are the spelling of a valid one
unfoldable pub snapshot_of : List ℕ → Option (Lab × List OpenLine)
snapshot_of bytes = option_and_then accepted (lab_form.parse bytes)
