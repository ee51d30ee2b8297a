use Rattle.std.proofs.Common.{◌∙◌, Err, ap, arith, length, string_bytes}
use Rattle.resc_vars.specs.Bodies.{enter, source_of}
use Rattle.monitor.specs.Answer.{answer_at}
use Rattle.monitor.specs.Bodies.{entered}
use Rattle.monitor.specs.Step.{Running}
use Rattle.monitor.proofs.Entered.{include_goes, include_stops, text_unread}
use Rattle.monitor.proofs.OpenLemmas.{body_entered, kept_answer}
use Rattle.monitor.proofs.Ruled.{done_stopped, done_told, ruled_leaves, ruled_told}
use Rattle.monitor.proofs.monitor.Monitor.include.Goals as goal

pub returns-in-Ok : goal.returns-in-Ok
returns-in-Ok g c =
    let s = c.args.self.now.state in
    let depth = c.depth.ensures.value ∙ ap (λ (r : Running). length r.state.flow.outer) c.self.view_is in
    let ruling = entered s (enter s.flow (source_of c.args.path.now (string_bytes c.in-Ok.text))) in
    done_told _ (λ place. answer_at place ruling) c.enter.result c.args.self.now c.enter.new.self c.args.files.now
    c.read_text.new.files
    (λ place held told. include_goes held s place c.args.path.now (omega (arith, depth)) _ _ c.in-Ok.text
    (c.in-Ok.ensures.read held told))
    (λ place. ruled_told place ruling c.enter.result c.args.self.now c.enter.new.self c.enter.ensures)
    (ruled_leaves ruling c.enter.result c.args.self.now c.enter.new.self c.enter.ensures)
    (λ place open_. kept_answer place ruling (body_entered s open_ _)) c.in-Ok.ensures.files

pub returns-in-Err : goal.returns-in-Err
returns-in-Err g c =
    let s = c.args.self.now.state in
    let depth = c.depth.ensures.value ∙ ap (λ (r : Running). length r.state.flow.outer) c.self.view_is in
    done_stopped _ c.text_stop.result c.args.self.now c.args.files.now c.read_text.new.files
    (λ place held told. include_stops held s place c.args.path.now (omega (arith, depth)) _ _ c.in-Err.fault
    c.text_stop.result s (c.in-Err.ensures.read held told) c.text_stop.ensures)
    (λ same. ap Err (text_unread c.args.path.now c.in-Err.fault c.text_stop.result c.text_stop.ensures same))
    c.in-Err.ensures.files
