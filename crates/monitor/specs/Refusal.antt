-- Refusals of a line in their order: in a `do` block the first that applies is the line's. All commands have one order:
--   where the line is taken: unclosed S17, commands S12, variable S3
--   where it is read: unknown command S1, arguments S2, time S10
--   here: no board S4, board S5, taken S6, boards S13, platform S15, name S7, kind S8, connected S9, depth S11,
--   lab time S14, size S19, not UTF-8 S18, what stands in a platform file or an image, address S16
use Rattle.std.specs.Prelude.{Bool, if◌then◌else◌, Result, Ok, Err}
use Rattle.resc_vars.specs.declared.cause.ScriptCause.{ScriptCause}

infixl 10 ◌>>=◌
abbrev pub ◌>>=◌ : {A B : Type 0} → Result A ScriptCause → (A → Result B ScriptCause) → Result B ScriptCause
(Ok x) >>= f = f x
(Err cause) >>= f = Err cause

-- a line is refused unless this holds
abbrev pub require : Bool → ScriptCause → Result (Unit {0}) ScriptCause
require holds cause = if holds then Ok tt else Err cause
