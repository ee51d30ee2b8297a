use Rattle.std.proofs.Common.{Err, [], ap}
use Rattle.std.proofs.lemmas.Result.{err_from_is_err_and}
use Rattle.monitor.specs.Inner.Ruling.{loaded_by, read_stop}
use Rattle.monitor.proofs.Loads.{load_goes, load_keeps, load_stops, read_unread}
use Rattle.monitor.proofs.Ruled.{done_refused, done_stopped, done_told}
use Rattle.monitor.proofs.monitor.Monitor.load.Goals as goal

pub returns-in_err-b : goal.returns-in_err-b
returns-in_err-b g c =
    let exit = err_from_is_err_and c.from_residual.result c.from_residual.ensures.1 in
    rw (exit.1, exit.2, c.in_err-b.ensures.err) (done_refused c.in_err-b.field-0.0 c.args.self.now c.args.files.now)

pub returns-in_err-bytes : goal.returns-in_err-bytes
returns-in_err-bytes g c =
    let exit = err_from_is_err_and c.from_residual-in_err-bytes.result c.from_residual-in_err-bytes.ensures.1 in
    let s = c.args.self.now.state in
    rw (exit.1, exit.2)
    (done_stopped _ (read_stop c.in_err-bytes.field-0.0) c.args.self.now c.args.files.now c.read_file.new.files
    (λ place held told. load_stops held s place c.args.path.now (loaded_by c.args.load s place) c.in_ok-b.b.0
    c.in_ok-b.ensures.ok _ _ c.in_err-bytes.field-0.0 s (c.in_err-bytes.ensures.read held told))
    (λ same. ap Err (read_unread c.in_err-bytes.field-0.0 same)) c.in_err-bytes.ensures.files)

pub returns : goal.returns
returns g c =
    let s = c.args.self.now.state in
    let on = c.in_ok-b.ensures.ok in
    done_told _
    (λ place. loaded_by c.args.load s place (record { number = c.in_ok-b.b.0; view = on.view })
    c.in_ok-bytes.bytes.items)
    c.load_bytes.result c.args.self.now c.load_bytes.new.self c.args.files.now c.read_file.new.files
    (λ place held told. load_goes held s place c.args.path.now (loaded_by c.args.load s place) c.in_ok-b.b.0 on _ _
    c.in_ok-bytes.bytes (c.in_ok-bytes.ensures.read held told) c.in_ok-bytes.ensures.short)
    (λ place. rw (← c.deref.ensures.value) (c.load_bytes.ensures place on.view on.seen).0)
    (c.load_bytes.ensures (record { file = []; number = 0 }) on.view on.seen).1
    (λ place open_. load_keeps s open_ place c.args.load (record { number = c.in_ok-b.b.0; view = on.view })
    c.in_ok-bytes.bytes.items)
    c.in_ok-bytes.ensures.files
