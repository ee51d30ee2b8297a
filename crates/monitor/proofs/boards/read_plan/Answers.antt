use Rattle.std.proofs.Common.{Err, ap}
use Rattle.lab_io.proofs.Frames.{reads_as}
use Rattle.repl_files.specs.Loading.{load}
use Rattle.monitor.proofs.Equipping.{load_stops, load_unread, plan_read}
use Rattle.monitor.proofs.Ruled.{told}
use Rattle.monitor.proofs.boards.read_plan.Goals as goal

pub returns-in-Ok-clause-read : goal.returns-in-Ok-clause-read
returns-in-Ok-clause-read g c = λ held is.
    plan_read (load held c.args.bodies c.args.path.now) c.in-Ok.loaded c.plan_of.result _ _
    (told _ c.in-Ok.ensures.loaded held is) c.plan_of.ensures.plan

pub returns-in-Ok-clause-files : goal.returns-in-Ok-clause-files
returns-in-Ok-clause-files g c = reads_as (λ same. absurd (rw same at c.plan_of.ensures.plan)) c.in-Ok.ensures.files

pub returns-in-Err-clause-read : goal.returns-in-Err-clause-read
returns-in-Err-clause-read g c = λ held is.
    rw c.load_stop.ensures
    (load_stops (load held c.args.bodies c.args.path.now) c.in-Err.fault _ _ (told _ c.in-Err.ensures.loaded held is))

pub returns-in-Err-clause-files : goal.returns-in-Err-clause-files
returns-in-Err-clause-files g c =
    rw c.load_stop.ensures (reads_as (λ same. ap Err (load_unread c.in-Err.fault (cc same))) c.in-Err.ensures.files)
