use Rattle.std.proofs.Common.{◌∙◌, [], ap, length, Ok, Err}
use Rattle.std.proofs.lemmas.Result.{err_from_is_err_and}
use Rattle.monitor.specs.Answer.{answer_at}
use Rattle.monitor.specs.Boards.{made}
use Rattle.monitor.specs.Step.{Running}
use Rattle.monitor.proofs.Equipping.{platform_goes, platform_stops}
use Rattle.monitor.proofs.OpenLemmas.{made_by}
use Rattle.monitor.proofs.Ruled.{done_refused, done_stopped, done_told, ruled_leaves, ruled_told}
use Rattle.monitor.proofs.monitor.Monitor.load_platform.Goals as goal

pub returns-in_err-b : goal.returns-in_err-b
returns-in_err-b g c =
    let exit = err_from_is_err_and c.from_residual.result c.from_residual.ensures.1 in
    rw (exit.1, exit.2, c.in_err-b.ensures.err) (done_refused c.in_err-b.field-0.0 c.args.self.now c.args.files.now)

pub returns-in_err-plan : goal.returns-in_err-plan
returns-in_err-plan g c =
    let exit = err_from_is_err_and c.from_residual-in_err-plan.result c.from_residual-in_err-plan.ensures.1 in
    let depth = c.depth.ensures.value ∙ ap (λ (r : Running). length r.state.flow.outer) c.self.view_is in
    let s = c.args.self.now.state in
    rw (exit.1, exit.2)
    (done_stopped _ c.in_err-plan.field-0.0 c.args.self.now c.args.files.now c.read_plan.new.files
    (λ place held told. platform_stops held s s place c.args.path.now c.in_ok-b.b.0 c.depth.result
    c.in_err-plan.field-0.0 _ _ c.in_ok-b.ensures.ok depth (c.in_err-plan.ensures.read held told))
    (λ same. ap Err same) c.in_err-plan.ensures.files)

pub returns : goal.returns
returns g c =
    let depth = c.depth.ensures.value ∙ ap (λ (r : Running). length r.state.flow.outer) c.self.view_is in
    let s = c.args.self.now.state in
    let ruling = Ok (made s c.in_ok-b.b.0 c.in_ok-plan.plan) in
    done_told _ (λ place. answer_at place ruling) c.fit.result c.args.self.now c.fit.new.self c.args.files.now
    c.read_plan.new.files
    (λ place held told. platform_goes held s place c.args.path.now c.in_ok-b.b.0 c.depth.result c.in_ok-plan.plan _ _
    c.in_ok-b.ensures.ok depth (c.in_ok-plan.ensures.read held told))
    (λ place. ruled_told place ruling c.fit.result c.args.self.now c.fit.new.self c.fit.ensures)
    (ruled_leaves ruling c.fit.result c.args.self.now c.fit.new.self c.fit.ensures)
    (λ place open_. made_by s open_ c.in_ok-b.b.0 [] c.in_ok-b.ensures.none (Ok c.in_ok-plan.plan))
    c.in_ok-plan.ensures.files
