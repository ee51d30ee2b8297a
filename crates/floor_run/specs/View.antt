-- What a seat at the bench knows, and how its steps change that.
use Rattle.std.specs.Prelude.{ℕ, ◌+◌, true, false, List, [], Option, None}
use Rattle.floor_run.specs.declared.view.View.{View}

module _ {J : Type 0} where
  -- a seat that has made no claim
  abbrev pub fresh : List J → View J
  fresh starts = record { starts = starts; claims = 0; board = 0; found = 0; held = None; spent = false }

  -- a seat that was joined to another
  abbrev pub spent : View J
  spent = record { starts = []; claims = 0; board = 0; found = 0; held = None; spent = true }

  -- the same, holding nothing
  abbrev pub empty_handed : View J → View J
  empty_handed v = record v { held = None }

  -- after a claim of a board, which found this word and won this job, or nothing
  abbrev pub after_claim : View J → ℕ → ℕ → Option J → View J
  after_claim v board found held =
      record v { claims = v.claims + 1; board = board; found = found; held = held }
